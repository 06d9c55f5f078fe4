-- A run keeps the invariant. Assumes nothing.
use Rattle.std.proofs.Common.{sym, subst}
use Rattle.protocol.specs.Rings.{Ring, Fair}
use Rattle.protocol.specs.Rounds.{Opened, Call, refused, sent, signed, laid, closed}
use Rattle.protocol.specs.Runs.{Calls, none, one_more}
use Rattle.protocol.specs.States.{State}
use Rattle.protocol.proofs.Invariant.{Invariant}
use Rattle.protocol.proofs.Keeps.Closings.{close_keeps}
use Rattle.protocol.proofs.Keeps.Lays.{lay_keeps}
use Rattle.protocol.proofs.Keeps.Opens.{open_makes}
use Rattle.protocol.proofs.Keeps.Sends.{send_keeps}
use Rattle.protocol.proofs.Keeps.Signs.{sign_keeps}

-- one call keeps it
pub call_keeps : (g : Ring) → Fair g → (s s' : State) → Invariant g s → Call g s s' → Invariant g s'
call_keeps g fair s s' inv (refused e) = subst (λ x. Invariant g x) (sym e) inv
call_keeps g fair s s' inv (sent e) = send_keeps g fair s s' inv e
call_keeps g fair s s' inv (signed m names e) = sign_keeps g fair s s' m names inv e
call_keeps g fair s s' inv (laid q m names e) = lay_keeps g fair s s' q m names inv e
call_keeps g fair s s' inv (closed e) = close_keeps g fair s s' inv e

pub run_keeps : (g : Ring) → Fair g → (o s : State) → Opened g o → Calls g o s → Invariant g s
run_keeps g fair o s opened none = open_makes g fair o opened
run_keeps g fair o s opened (one_more {s' = s₁} {s'' = s₂} cs c) = call_keeps g fair s₁ s₂ (run_keeps g fair o s₁ opened cs) c
