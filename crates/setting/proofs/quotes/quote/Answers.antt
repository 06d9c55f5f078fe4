use Rattle.std.proofs.Common.{Err, rules}
use Rattle.setting.specs.declared.refusals.Refusal.TheVariants.{SoundCount}
use Rattle.setting.proofs.Table.{told}
use Rattle.setting.proofs.quotes.quote.Goals as goal

pub returns-in_err-setting : goal.returns-in_err-setting
returns-in_err-setting c = record { value = search rules; breaks = told _ _ _ _ (search rules); laws = search rules }

pub returns-then-not-contains : goal.returns-then-not-contains
returns-then-not-contains c =
    record { value = search rules; breaks = told _ _ _ (Err SoundCount) (search rules); laws = search rules }
