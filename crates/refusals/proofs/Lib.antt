pub mod OrElseLaws
