-- Runs: a ring as open made it, and the calls that follow. Assumes nothing.
--   Calls        a list of calls, the latest last
--   SignsAlone   in this call the lead signs m with its name alone: a sound lead its order in the send of round 1, a
--                faulty one in a sign
--   LeadSigned   the lead has signed m in one of the calls
use Rattle.std.specs.Prelude.{◌≡◌, ℕ, true, ◌⊎◌, [], ◌∷◌}
use Rattle.protocol.specs.Rings.{Ring}
use Rattle.protocol.specs.Rounds.{Call, refused, sent, signed, laid, closed}
use Rattle.protocol.specs.States.{State}

pub data Calls (g : Ring) (s : State) : State → Type 0 where
  none : Calls g s s
  one_more : {s' s'' : State} → Calls g s s' → Call g s' s'' → Calls g s s''

abbrev pub SignsAlone : (g : Ring) {s s' : State} → Call g s s' → ℕ → Type 0
SignsAlone g (refused e) m = ⊥
SignsAlone g {s} (sent e) m = (g.sound g.lead ≡ true) × (s.closed ≡ 0) × (m ≡ g.order)
SignsAlone g (signed m' names e) m = (names ≡ g.lead ∷ []) × (m ≡ m')
SignsAlone g (laid q m' names e) m = ⊥
SignsAlone g (closed e) m = ⊥

abbrev pub LeadSigned : (g : Ring) {s s' : State} → Calls g s s' → ℕ → Type 0
LeadSigned g none m = ⊥
LeadSigned g (one_more cs c) m = LeadSigned g cs m ⊎ SignsAlone g c m
