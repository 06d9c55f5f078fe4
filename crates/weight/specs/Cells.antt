-- The cells of one switch. Assumes nothing.
--   taken_at   the switch has taken the chain of this place; past the end of the cells nothing is taken
--   holds      the switch holds the chain of an order with these names: it is proper, and the cell of its place is taken.
--              An order is its code, and no kind of order has more than 16 codes
--   held_in    the same, where the cells are those of one order alone
--   holds_of   these two, said of the chains of a ring
--   held_of
--   One        m is the only order of the chains that the switch holds
--   Two        it holds chains of two orders
--   Knows      what the switch knows of orders
use Rattle.std.specs.Prelude.{◌≡◌, ℕ, Bool, true, false, ◌&&◌, ◌≢◌, List, nat_lt, slice_index_or}
use Rattle.chain.specs.declared.chains.Chains.{Chains}
use Rattle.chain.specs.Chains.{is_proper}
use Rattle.chain.specs.Places.{place_of, within}
use Rattle.weight.specs.declared.cells.Cell.{Cell}
use Rattle.weight.specs.declared.knowns.Known.{Known}
use Rattle.weight.specs.declared.knowns.Known.TheVariants.{Nothing, Sole, Several}

abbrev pub taken_at : List Cell → ℕ → Bool
taken_at cells i = (slice_index_or cells i (record { mark = 0; taken = false })).taken

abbrev pub holds : (n t lead : ℕ) → List Cell → ℕ → List ℕ → Bool
holds n t lead cells code names = nat_lt code 16 && (is_proper n t lead names && taken_at cells (place_of n t code names))

abbrev pub held_in : (n t lead : ℕ) → List Cell → List ℕ → Bool
held_in n t lead part names = is_proper n t lead names && taken_at part (within n names)

abbrev pub holds_of : Chains → List Cell → ℕ → List ℕ → Bool
holds_of c cells code names = holds c.setting.size c.setting.tolerance c.lead cells code names

abbrev pub held_of : Chains → List Cell → List ℕ → Bool
held_of c part names = held_in c.setting.size c.setting.tolerance c.lead part names

pub record One (held : ℕ → List ℕ → Bool) (m : ℕ) : Type 0 where
  pub names : List ℕ
  pub here : held m names ≡ true
  pub only : (m' : ℕ) (names' : List ℕ) → held m' names' ≡ true → m' ≡ m

pub record Two (held : ℕ → List ℕ → Bool) : Type 0 where
  pub m : ℕ
  pub m' : ℕ
  pub apart : m ≢ m'
  pub names : List ℕ
  pub names' : List ℕ
  pub here : held m names ≡ true
  pub here' : held m' names' ≡ true

abbrev pub Knows : (ℕ → List ℕ → Bool) → Known → Type 0
Knows held Nothing = (m : ℕ) (names : List ℕ) → held m names ≡ false
Knows held (Sole m) = One held m
Knows held Several = Two held
