pub mod FlagsByteLaws
