-- `streams::tell` writes its line in four parts, one after the other.
use Rattle.std.proofs.Common.{[], ◌∷◌}
use Rattle.streams.proofs.Parts.{joined}
use Rattle.streams.proofs.tell.Goals as goal

pub returns : goal.returns
returns g c =
    let held = g.W.Write.contents in
    let start = held c.args.to.now in
    let one = held c.write_all.new.self in
    let two = held c.write_all-2.new.self in
    let three = held c.write_all-3.new.self in
    let four = held c.write_all-4.new.self in
    let what = c.args.what.now in
    let reason = c.as_bytes.result.now in (
      reason,
      joined start one four what _ c.in_ok-write_all.ensures.bytes
          (joined one two four (58 ∷ 32 ∷ []) _ c.in_ok-write_all-2.ensures.bytes
          (joined two three four reason (10 ∷ []) c.in_ok-write_all-3.ensures.bytes c.in_ok-write_all-4.ensures.bytes)),
    )
