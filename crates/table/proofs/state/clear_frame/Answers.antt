-- `table::state::clear_frame` meets its contract: the frame's 19 words are filled with zeros.
use Rattle.std.proofs.Common.{◌+◌, ◌-◌, refl, arith}
use Rattle.std.proofs.lemmas.Slice.{put_mid-paste}
use Rattle.table.proofs.StateFrames.{zeros, filled_with_zeros, frame_left}
use Rattle.table.proofs.state.clear_frame.Goals as goal

pub returns : goal.returns
unfolding zeros
returns c =
    let l = c.args.s.now in
    let h = c.args.h in
    let filled = filled_with_zeros l _ h.frame 19 (omega arith) (c.fill.ensures.after (λ y e. e)) in
    let zero = put_mid-paste h.frame (h.frame + 19 - h.frame) l _ (zeros 19) 19 filled (omega arith) refl in
    record { becomes = λ S rest held inner. rw zero (frame_left held h.thread h.depth h.placed.thread h.frame h.placed.depth inner h.placed.frame) }
