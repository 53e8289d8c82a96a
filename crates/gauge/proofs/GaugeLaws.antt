-- Gauges whose parts agree. Assumes nothing.
use mathlib.Core.Path.{◌≡◌, refl}
use Prim.Native.Nat.{ℕ}
use Rattle.charge.specs.declared.charge.Charge.{Charge}
use Rattle.configuration.specs.declared.settings.Settings.{Settings}
use Rattle.counters.specs.declared.counters.Counters.{Counters}
use Rattle.flags.specs.declared.flags.Flags.{Flags}
use Rattle.host.specs.declared.host.Host.{Host}
use Rattle.sample.specs.declared.sample.Sample.{Sample}
use Rattle.gauge.specs.Parts.{gauge_of}

pub gauge_alike : {c d : Settings} {x y : Charge} {s u : Sample} {i j : ℕ} {f g : Flags} {h k : Host} {m n : Counters}
    → c ≡ d → x ≡ y → s ≡ u → i ≡ j → f ≡ g → h ≡ k → m ≡ n → gauge_of c x s i f h m ≡ gauge_of d y u j g k n
gauge_alike o p q r t w z = cc

-- with the settings that it had
pub same_settings_alike : {c : Settings} {x y : Charge} {s u : Sample} {i j : ℕ} {f g : Flags} {h k : Host} {m n : Counters}
    → x ≡ y → s ≡ u → i ≡ j → f ≡ g → h ≡ k → m ≡ n → gauge_of c x s i f h m ≡ gauge_of c y u j g k n
same_settings_alike p q r t w z = gauge_alike refl p q r t w z
