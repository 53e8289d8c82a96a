-- The standby current that a window or a command leaves is one that 14 does not refuse: fifteen sixteenths of 32 × S0 are 30 × S0, and a light
-- load adds at most 2 × S0. Assumes nothing.
use mathlib.Core.Bool.{Bool, true, false, not, ◌&&◌, cond}
use mathlib.Core.Path.{◌≡◌, refl}
use Prim.Native.Nat.{ℕ, ◌+◌, ◌*◌, ◌/◌, ◌≤◌}
use native.Mathlib.Omega.{arith}
use lib.Dec.{eqb, leb}
use borrow.Author.Tests.{leb-true, le-leb}
use Rattle.command.specs.declared.command.Command.{Command}
use Rattle.command.specs.declared.command.Command.TheVariants.{Setting, Reset}
use Rattle.standby.specs.Standby.{averaged, opened_standby, standby_accepted, standby_obeyed}

pub averaged_kept : (s0 si iav : ℕ) → standby_accepted s0 si ≡ true → standby_accepted s0 (averaged s0 si iav) ≡ true
unfolding averaged standby_accepted
averaged_kept s0 si iav e = go (not (eqb iav 0)) (leb iav (2 * s0)) refl
  where
    h : si ≤ 32 * s0
    h = leb-true si (32 * s0) e

    go : (p q : Bool) → leb iav (2 * s0) ≡ q → leb (cond (p && q) (15 * si / 16 + iav) si) (32 * s0) ≡ true
    go true true f =
        let k = leb-true iav (2 * s0) f in
        let l = h in
        le-leb (15 * si / 16 + iav) (32 * s0) (omega arith)
    go true false f = e
    go false q f = e

pub opened_standby_lem : (s0 : ℕ) → standby_accepted s0 (opened_standby s0) ≡ true
unfolding standby_accepted
opened_standby_lem s0 = le-leb (opened_standby s0) (32 * s0) (omega arith)

pub obeyed_kept : (command : Command) (s0 si : ℕ) → standby_accepted s0 si ≡ true → standby_accepted s0 (standby_obeyed command s0 si) ≡ true
unfolding standby_obeyed
obeyed_kept (Setting setting) s0 si e = e
obeyed_kept (Reset reset) s0 si e = opened_standby_lem s0
