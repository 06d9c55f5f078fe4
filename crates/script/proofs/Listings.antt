-- What is written byte by byte is the listing by lines. Assumes nothing.
use Rattle.std.proofs.Common.{◌≡◌, ℕ, ◌+◌, ◌<◌, min, false, eqb, leb, List, [], ◌∷◌, ◌++◌, length, take, sym, refl, ap, ◌∙◌, ⊎_elim, append_assoc, append-nil, arith, length-append, length-take-le}
use lib.Seq.{take-append-le}
use Rattle.std.proofs.lemmas.List.{take_all}
use Rattle.std.proofs.lemmas.Bool.{cases_Bool, cases_lt, cond-true, cond-false, and_left, lt-leb, lt-ltb, le-ltb}
use Rattle.std.proofs.lemmas.Bool.Decides.{nat_tests}
use Rattle.script.specs.Answers.{answered, reply_text}
use Rattle.script.specs.Forms.{whole}
use Rattle.script.specs.Listing.{line_text, last_text, first_line, other_lines, listed, listing, counted, kept_with, still}

-- bytes past the script's limit are one like the other
limit_capped : (n : ℕ) → leb (min 32769 n) 32768 ≡ leb n 32768
limit_capped n = grind (arith, nat_tests)

counted_capped : (n : ℕ) → counted (min 32769 n) ≡ min 32769 (n + 1)
counted_capped n = grind (arith, nat_tests)

-- a line that is too long is so by its front
too_long : (last : ℕ) (line : List ℕ) → 200 < length line → whole last line ≡ false
too_long last line long = and_left _ _ (lt-leb (length line) 200 long)

answered_front : (last : ℕ) (line : List ℕ) → answered (min 32769 last) (take 201 line) ≡ answered last line
answered_front last line =
    ⊎_elim
    (λ long.
    let front = length-take-le 201 line (omega arith) in
    let short = too_long (min 32769 last) (take 201 line) (omega arith) in
    let full = too_long last line (omega arith) in
    rw (short, full) refl)
    (λ short. rw (take_all 201 line short, limit_capped last) refl)
    (cases_lt 201 (length line))

line_front : (last : ℕ) (line : List ℕ) → line_text (min 32769 last) (take 201 line) ≡ line_text last line
line_front last line = ap (λ r. reply_text r ++ (10 ∷ [])) (answered_front last line)

last_front : (last : ℕ) (line : List ℕ) → last_text (min 32769 last) (take 201 line) ≡ last_text last line
last_front last [] = refl
last_front last (b ∷ bs) = line_front last (b ∷ bs)

kept_front : (line : List ℕ) (b : ℕ) → kept_with (take 201 line) b ≡ take 201 (line ++ b ∷ [])
kept_front line b =
    let one_more = length-append line (b ∷ []) in
    ⊎_elim
    (λ short.
    rw (take_all 201 line (omega arith), take_all 201 (line ++ b ∷ []) (omega arith))
    (cond-true _ _ _ (lt-ltb (length line) 201 short)))
    (λ long.
    let full = length-take-le 201 line long in
    cond-false _ _ _ (le-ltb (length (take 201 line)) 201 (omega arith)) ∙ sym (take-append-le 201 line (b ∷ []) long))
    (cases_lt (length line) 201)

-- where the bytes `line` of a line were read, that began after `before` bytes of the script
still_listed : (script : List ℕ) (before : ℕ) (line : List ℕ) → still (min 32769 (before + length line)) (take 201 line) script ≡ listed before (line ++ first_line script) (other_lines script)
still_listed [] before line = rw append-nil (last_front (before + length line) line)
still_listed (b ∷ bs) before line =
    ⊎_elim
    (λ e.
    let here = line_front (before + length line) line in
    let next = still_listed bs (before + length line + 1) [] in
    let none : before + length line + 1 + 0 ≡ before + length line + 1 = omega arith in
    rw e (rw (append-nil, here, counted_capped (before + length line)) (ap (λ l. line_text (before + length line) line ++ l) (rw none at next))))
    (λ e.
    let long = length-append line (b ∷ []) in
    let sum : before + length (line ++ b ∷ []) ≡ before + length line + 1 = omega arith in
    let next = still_listed bs before (line ++ b ∷ []) in
    rw e (rw (counted_capped (before + length line), kept_front line b) (rw (sum, append_assoc line (b ∷ []) (first_line bs)) at next)))
    (cases_Bool (eqb b 10))

pub all_listed : (front script : List ℕ) → front ≡ [] → still 0 front script ≡ listing script
all_listed front script none = rw none (still_listed script 0 [])
