-- The promise, put together from its parts. Assumes nothing.
use Rattle.protocol.specs.Promises.{Promised}
use Rattle.protocol.proofs.Keeps.Kept.{run_keeps}
use Rattle.protocol.proofs.Parts.Agreement.{agree}
use Rattle.protocol.proofs.Parts.AllOrNone.{all_or_none}
use Rattle.protocol.proofs.Parts.Ended.{all_ended, done_later}
use Rattle.protocol.proofs.Parts.InTime.{carried_in_time}
use Rattle.protocol.proofs.Parts.LeadSigned.{lead_signed, carried_signed}
use Rattle.protocol.proofs.Parts.Stays.{carried_stays, then}

pub promised : Promised
promised g fair =
    record {
      one_order = λ o s s' opened before after p q m m' sound_p sound_q carried carried'.
          agree g fair s' (run_keeps g fair o s' opened (then before after)) p q m m' sound_p sound_q (carried_stays g s s' after p m sound_p carried) carried';
      signed = λ o s opened calls p m sound carried. lead_signed g fair o s opened calls m (carried_signed g fair s (run_keeps g fair o s opened calls) p m sound carried);
      once = λ s s' calls p m sound carried. (carried_stays g s s' calls p m sound carried, done_later g s s' calls p m sound carried);
      ended = λ o s opened calls end. all_ended g fair s (run_keeps g fair o s opened calls) end;
      all_or_none = λ o s opened calls end. all_or_none g fair s (run_keeps g fair o s opened calls) end;
      in_time = λ o s opened calls sound late. carried_in_time g fair s (run_keeps g fair o s opened calls) sound late;
    }
