use Rattle.std.proofs.KnownBytes.{Appends-kept}
use Rattle.jbig2_program.proofs.Sending.{sent_more}
use Rattle.jbig2_program.proofs.output.send.Goals as goal
use Rattle.jbig2_program.proofs.output.send.Goals.{in-Ok, in-Err+else-ne}

pub loop-turn-preserved : goal.loop-turn-preserved
loop-turn-preserved g c =
    let inv = c.loop-turn.invariant in
    elim c.match-write.branch [
      | in-Ok w ↦
          let more = sent_more _ _ _ c.args.bytes.now c.loop-turn.sent w.in-Ok.count inv.within w.in-Ok.ensures.bound inv.sent w.in-Ok.ensures.bytes in
          rw w.sent-is (record { within = more.0; sent = more.1 })
      | in-Err+else-ne w ↦ rw w.sent-is (record { within = inv.within; sent = Appends-kept _ _ _ _ inv.sent w.in-Err.ensures.bytes })
    ]
