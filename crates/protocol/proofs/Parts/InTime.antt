-- Under a sound lead that is not alone, all have carried out its order once the quoted round is closed. Assumes nothing.
use Rattle.std.proofs.Common.{◌≡◌, ℕ, ◌≤◌, true, arith}
use Rattle.setting.specs.Quotes.{round}
use Rattle.protocol.specs.Promises.{sound_count}
use Rattle.protocol.specs.Rings.{Ring, Fair, Sound}
use Rattle.protocol.specs.States.{State, Carried}
use Rattle.protocol.proofs.Invariant.{Invariant}
use Rattle.protocol.proofs.Parts.Led.{all_carry}

pub carried_in_time : (g : Ring) → Fair g → (s : State) → Invariant g s → g.sound g.lead ≡ true → round g.t (sound_count g) ≤ s.closed → (p : ℕ) → Sound g p → Carried (s.standing p) g.order
carried_in_time g fair s inv sound late p sound_p =
    all_carry g fair s inv sound (omega arith) (λ q follows few stays. let early = inv.in_time sound q follows stays in omega arith) p sound_p
