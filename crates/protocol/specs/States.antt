-- What is known of a ring at one moment of its run. Assumes nothing.
--   closed      how many rounds are closed
--   listening   a send has been made since: chains may be signed and laid until the next close
--   standing    how far a switch is: leading, waiting, carrying out, done with it, or quit
--   taken       switch p holds the chain of order m with these names
--   signed      the ledger has the chain of order m with these names, signed by the last of them
--   Carried     the order that a switch of this standing has carried out
--   Sends       a switch of this standing passes its chains on
use Rattle.std.specs.Prelude.{◌≡◌, ℕ, Bool, ◌⊎◌, List}
use Rattle.protocol.specs.declared.standings.Standing.{Standing}
use Rattle.protocol.specs.declared.standings.Standing.TheVariants.{Waiting, Carry, Done}

pub record State : Type 0 where
  pub closed : ℕ
  pub listening : Bool
  pub standing : ℕ → Standing
  pub taken : ℕ → ℕ → List ℕ → Bool
  pub signed : ℕ → List ℕ → Bool

abbrev pub Carried : Standing → ℕ → Type 0
Carried standing m = (standing ≡ Carry m) ⊎ (standing ≡ Done m)

abbrev pub Sends : Standing → Type 0
Sends standing = (standing ≡ Waiting) ⊎ ((m : ℕ) × (standing ≡ Carry m))
