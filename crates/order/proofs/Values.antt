-- Values of a kind that have one code are one value. Assumes nothing.
use Rattle.std.proofs.Common.{◌≡◌, ℕ, ◌/◌, ◌%◌, ◌<◌, ◌≤◌, Bool, true, false, eqb, IfSome, Some, None, Option, sym, refl, ap, ◌∙◌, arith, MatchOption}
use mathlib.Core.HLevel.{is_prop→PathP}
use native.Mathlib.Bridge.{le_prop}
use Rattle.std.proofs.lemmas.Bool.Decides.{nat_tests}
use Rattle.order.specs.declared.links.LinkOrder.{LinkOrder}
use Rattle.order.specs.declared.plans.Plan.{Plan}
use Rattle.order.specs.Links.{link_code}

pub plan_path : (p q : Plan) → p.number ≡ q.number → p ≡ q
plan_path p q e = λ i. record { number = e i; below = is_prop→PathP (λ j. e j < 16) (λ j. le_prop) p.below q.below i }

pub plan_back : (code : ℕ) (r : Option Plan) → MatchOption r (16 ≤ code) (λ p. p.number ≡ code) → (v : Plan) → v.number ≡ code → r ≡ Some v
plan_back code None none v is = let low = v.below in absurd (omega arith)
plan_back code (Some p) same v is = ap Some (plan_path p v (same ∙ sym is))

pub link_path : (p q : LinkOrder) → p.link ≡ q.link → p.closed ≡ q.closed → p ≡ q
link_path p q e f = λ i. record { link = e i; closed = f i; below = is_prop→PathP (λ j. e j < 6) (λ j. le_prop) p.below q.below i }

link_of : (l m : ℕ) (b c : Bool) → link_code l b ≡ link_code m c → l ≡ m
link_of l m true true e = omega arith
link_of l m true false e = omega arith
link_of l m false true e = omega arith
link_of l m false false e = omega arith

closed_of : (l m : ℕ) (b c : Bool) → link_code l b ≡ link_code m c → b ≡ c
closed_of l m true true e = refl
closed_of l m true false e = absurd (omega arith)
closed_of l m false true e = absurd (omega arith)
closed_of l m false false e = refl

pub link_apart : (p q : LinkOrder) → link_code p.link p.closed ≡ link_code q.link q.closed → p ≡ q
link_apart p q e = link_path p q (link_of _ _ p.closed q.closed e) (closed_of _ _ p.closed q.closed e)

-- a code's half is its link, and an odd code closes
whole_code : (code : ℕ) → link_code (code / 2) (eqb (code % 2) 1) ≡ code
whole_code code = grind (arith, nat_tests)

pub link_has : (code : ℕ) (b : Bool) (r : Option LinkOrder) → b ≡ eqb (code % 2) 1 → MatchOption r (6 ≤ code / 2) (λ o. (o.link ≡ code / 2) × (o.closed ≡ b)) → IfSome r (λ v. link_code v.link v.closed ≡ code)
link_has code b None is h = tt
link_has code b (Some o) is h = (λ i. link_code (h.0 i) ((h.1 ∙ is) i)) ∙ whole_code code

pub link_back : (code : ℕ) (b : Bool) (r : Option LinkOrder) → b ≡ eqb (code % 2) 1 → MatchOption r (6 ≤ code / 2) (λ o. (o.link ≡ code / 2) × (o.closed ≡ b)) → (v : LinkOrder) → link_code v.link v.closed ≡ code → r ≡ Some v
link_back code b None is none v e =
    let half = link_of v.link (code / 2) v.closed (eqb (code % 2) 1) (e ∙ sym (whole_code code)) in
    let low = v.below in
    absurd (omega arith)
link_back code b (Some o) is h v e = ap Some (link_apart o v (link_has code b (Some o) is h ∙ sym e))
