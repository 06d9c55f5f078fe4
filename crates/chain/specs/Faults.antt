-- What is wrong with the names of a chain. Assumes nothing.
--   fault_of_name   the fault of one name, if any: its place is `place`, and `again` says whether it stands before it too
--   first_fault     the fault of the first name that has one
--   unfit           the first rule that the names break, if any: their number is looked at before any of them
use Rattle.std.specs.Prelude.{ℕ, suc, ◌+◌, Bool, if◌then◌else◌, not, ◌&&◌, List, [], ◌∷◌, ◌++◌, length, Some, None, Option, ◌==◌, nat_le, nat_lt}
use Rattle.std.specs.Option.{option_or}
use Rattle.counting.specs.Lists.{has}
use Rattle.chain.specs.declared.refusals.Refusal.{Refusal}
use Rattle.chain.specs.declared.refusals.Refusal.TheVariants.{Length, Beyond, NotLead, Repeated}

abbrev pub fault_of_name : (n lead place : ℕ) → Bool → ℕ → Option Refusal
fault_of_name n lead place again name = if nat_lt name n then (if place == 1 && not (name == lead) then Some NotLead else if again then Some (Repeated place) else None) else Some (Beyond place)

abbrev pub first_fault : (n lead place : ℕ) → List ℕ → List ℕ → Option Refusal
first_fault n lead place before [] = None
first_fault n lead place before (x ∷ xs) = option_or (fault_of_name n lead place (has x before) x) (first_fault n lead (suc place) (before ++ x ∷ []) xs)

abbrev pub unfit : (n t lead : ℕ) → List ℕ → Option Refusal
unfit n t lead names = if nat_le 1 (length names) && nat_le (length names) (t + 1) then first_fault n lead 1 [] names else Some Length
