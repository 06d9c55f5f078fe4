-- The words of chains, said of the chains of one ring under one lead. Assumes nothing.
--   many       N, the number of proper chains of one order
--   IsChain    a list of names is a proper chain
--   fault_in   the first rule that the names of a chain break, if any
--   place_in   the place of a chain of an order's code
use Rattle.std.specs.Prelude.{ℕ, List, Option}
use Rattle.setting.specs.declared.settings.Setting.{Setting}
use Rattle.chain.specs.declared.chains.Chains.{Chains}
use Rattle.chain.specs.declared.refusals.Refusal.{Refusal}
use Rattle.chain.specs.Chains.{Proper}
use Rattle.chain.specs.Faults.{unfit}
use Rattle.chain.specs.Places.{per_order, place_of}

abbrev pub many : Setting → ℕ
many s = per_order s.size s.tolerance

abbrev pub IsChain : Chains → List ℕ → Type 0
IsChain c names = Proper c.setting.size c.setting.tolerance c.lead names

abbrev pub fault_in : Chains → List ℕ → Option Refusal
fault_in c names = unfit c.setting.size c.setting.tolerance c.lead names

abbrev pub place_in : Chains → ℕ → List ℕ → ℕ
place_in c code names = place_of c.setting.size c.setting.tolerance code names
