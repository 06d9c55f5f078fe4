-- A switch that has carried out an order has carried out that order ever after. Assumes nothing.
--   then   two lists of calls, one after the other
use Rattle.std.proofs.Common.{ℕ, sym, ap, ◌∙◌, subst, inl, inr, arith}
use Rattle.protocol.specs.declared.standings.Standing.{Standing}
use Rattle.protocol.specs.declared.standings.Standing.TheVariants.{Done}
use Rattle.protocol.specs.Rings.{Ring, Sound}
use Rattle.protocol.specs.Rounds.{Closes, led, ends, done, quit, early, waits, quits, picks, Call, refused, sent, signed, laid, closed}
use Rattle.protocol.specs.Runs.{Calls, none, one_more}
use Rattle.protocol.specs.States.{State, Carried}
use Rattle.protocol.proofs.Same.{kind}
use Rattle.protocol.proofs.Parts.CarriedOrders.{carried_kind, same_order}

-- a close leaves it or makes it done
close_stays : (g : Ring) (s : State) (r p : ℕ) (before after : Standing) (m : ℕ) → Closes g s r p before after → Carried before m → Carried after m
close_stays g s r p before after m (led m' b) carried = let k = ap kind b.0 in let c = carried_kind before m carried in absurd (omega arith)
close_stays g s r p before after m (ends m' b) carried = inr (b.1 ∙ ap Done (same_order before m' m (inl b.0) carried))
close_stays g s r p before after m (done m' b) carried = inr (b.1 ∙ ap Done (same_order before m' m (inr b.0) carried))
close_stays g s r p before after m (quit b) carried = let k = ap kind b.0 in let c = carried_kind before m carried in absurd (omega arith)
close_stays g s r p before after m (early m' w b few sole weighs enough) carried = let k = ap kind b.0 in let c = carried_kind before m carried in absurd (omega arith)
close_stays g s r p before after m (waits b few light) carried = let k = ap kind b.0 in let c = carried_kind before m carried in absurd (omega arith)
close_stays g s r p before after m (quits b last nothing) carried = let k = ap kind b.0 in let c = carried_kind before m carried in absurd (omega arith)
close_stays g s r p before after m (picks w h b last weighs heaviest) carried = let k = ap kind b.0 in let c = carried_kind before m carried in absurd (omega arith)

call_stays : (g : Ring) (s s' : State) → Call g s s' → (p m : ℕ) → Sound g p → Carried (s.standing p) m → Carried (s'.standing p) m
call_stays g s s' (refused e) p m sound carried = subst (λ x. Carried (x.standing p) m) (sym e) carried
call_stays g s s' (sent e) p m sound carried = subst (λ a. Carried a m) (sym (e.standing p sound)) carried
call_stays g s s' (signed m' names e) p m sound carried = subst (λ a. Carried a m) (sym (e.still.standing p sound)) carried
call_stays g s s' (laid q m' names e) p m sound carried = subst (λ a. Carried a m) (sym (e.still.standing p sound)) carried
call_stays g s s' (closed e) p m sound carried = close_stays g s _ p (s.standing p) (s'.standing p) m (e.standing p sound) carried

pub carried_stays : (g : Ring) (s s' : State) → Calls g s s' → (p m : ℕ) → Sound g p → Carried (s.standing p) m → Carried (s'.standing p) m
carried_stays g s s' none p m sound carried = carried
carried_stays g s s'' (one_more {s'} calls call) p m sound carried = call_stays g s' s'' call p m sound (carried_stays g s s' calls p m sound carried)

pub then : {g : Ring} {o s s' : State} → Calls g o s → Calls g s s' → Calls g o s'
then before none = before
then before (one_more calls call) = one_more (then before calls) call
