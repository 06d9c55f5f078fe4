-- What a grid's bits give. Assumes nothing.
use Rattle.std.proofs.Common.{◌≡◌, ℕ, suc, ◌*◌, ◌/◌, ◌%◌, ◌^◌, ◌<◌, ◌≤◌, false, ◌||◌, eqb, ltb, List, length, get_or, set, replicate, ◌∙◌, ⊎_elim, arith, get_or-set_other}
use Rattle.std.specs.Int.{w64}
use Rattle.std.specs.Int.Bits.{bit_or}
use Rattle.std.proofs.lemmas.Bool.{cases_eq}
use Rattle.std.proofs.lemmas.Grind.{common_steps, get_or-set_at}
use Rattle.std.proofs.lemmas.List.{get_or_past}
use Rattle.std.proofs.lemmas.Nat.Bits.{bit_at_set_same, bit_at_set_other}
use Rattle.counting.specs.Lists.{tally}
use Rattle.counting.proofs.Tallies.{tally_alike, tally_more, tally_most}
use Rattle.scheme.specs.declared.grids.Grid.{Grid}
use Rattle.scheme.specs.Bits.{bit_at}
use Rattle.scheme.specs.Grids.{grid_marks}
use Rattle.scheme.specs.Ledgers.{recorded}

-- words of zeros
zeros_at : (n i : ℕ) → ◌≡◌ {A = ℕ} (get_or (replicate n 0) i 0) 0
zeros_at n i = grind (arith, common_steps, get_or_past)

pub no_bit : (n p : ℕ) → bit_at (replicate n 0) p ≡ false
no_bit n p = grind (arith, zeros_at n (p / 64))

-- the word of a place with its bit set
pub word_set : (words : List ℕ) (p q : ℕ) → p / 64 < length words → bit_at (set words (p / 64) (bit_or (get_or words (p / 64) 0) ((1 * 2 ^ (p % 64)) % 2 ^ 64))) q ≡ (eqb q p || bit_at words q)
word_set words p q low =
    let v = bit_or (get_or words (p / 64) 0) ((1 * 2 ^ (p % 64)) % 2 ^ 64) in
    let bit : p % 64 < 64 = omega arith in
    let same = bit_at_set_same w64 (get_or words (p / 64) 0) (p % 64) bit in
    let kept = bit_at_set_other w64 (get_or words (p / 64) 0) (p % 64) bit (q % 64) in
    ⊎_elim
    (λ word.
    let here = get_or-set_at words (p / 64) (q / 64) v 0 word low in
    ⊎_elim (λ e. grind (arith, same)) (λ ne. grind (arith, kept ne)) (cases_eq (q % 64) (p % 64)))
    (λ other. let there = get_or-set_other words (p / 64) (q / 64) v 0 other in grind arith)
    (cases_eq (q / 64) (p / 64))

-- the count of signed places
pub bits_counted : (g : Grid) → g.signed ≡ recorded (grid_marks g) g.count
bits_counted g =
    g.tallied ∙ tally_alike (bit_at g.bits) (λ p. ltb 0 (grid_marks g p)) g.count (λ p low. grind arith)

pub signed_most : (g : Grid) → g.signed ≤ 16384
signed_most g = omega (arith, tally_most (bit_at g.bits) g.count, g.few, g.tallied)

-- one more signed place
pub tally_set : (bits bits' : List ℕ) (n p : ℕ) → p < n → bit_at bits p ≡ false → ((q : ℕ) → bit_at bits' q ≡ (eqb q p || bit_at bits q)) → tally (bit_at bits') n ≡ suc (tally (bit_at bits) n)
tally_set bits bits' n p low off set =
    tally_more (bit_at bits) (bit_at bits') n p low off (grind (arith, set p)) (λ q other. grind (arith, set q))
