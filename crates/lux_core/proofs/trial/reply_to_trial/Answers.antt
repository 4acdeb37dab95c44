-- What of `reply_to_trial` wants a proof by hand.
use Rattle.std.proofs.Common.{◌≢◌, refl, inl, inr, rules}
use Rattle.std.specs.Prelude.{None}
use Rattle.room_layout.specs.declared.fault.RoomFault.TheVariants as fault
use Rattle.lux_core.proofs.trial.reply_to_trial.Goals as goal

pub returns-in-Ok-clause-answered : goal.returns-in-Ok-clause-answered
returns-in-Ok-clause-answered g c =
    inr (record {
      room = c.in-Ok.room;
      accepted = rw (c.as_slice.ensures.value, c.in_ok-bytes.ensures.text) at c.in-Ok.ensures.accepted;
      said = c.in_ok-reply-in-Ok.ensures.answered None tt;
    })

pub returns : goal.returns
returns g c =
    let no_want : c.in-Err.fault ≢ fault.Memory = search rules in
    record {
      files = refl;
      answered = inl (record {
        status_is = c.in_ok-reply-in-Err.ensures.status;
        ended = record { taken = tt; stood = record { absences = refl; faults = refl } };
        fault = c.in-Err.fault;
        refused = rw (c.as_slice.ensures.value, c.in_ok-bytes.ensures.text) at (c.in-Err.ensures.refused no_want);
        no_want = no_want;
        text_is = c.in_ok-reply-in-Err.ensures.text;
      });
    }
