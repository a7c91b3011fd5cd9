-- What a report walks: the slots of a frame as a row, frame by frame from the outermost, and then the message that the thread put.
use Rattle.std.proofs.Common.{ℕ, ◌+◌, ◌%◌, ◌≤◌, ◌<◌, mod-eq_of_lt, add-one, arith, ◌≡◌, refl, sym, ap, ◌∙◌, subst, List, [], ◌∷◌, ◌++◌, append_assoc, append-nil, length, get_or, take, take-suc, take_all}
use Rattle.rules.specs.declared.Value.{Value}
use Rattle.rules.specs.Mosts as Most
use Rattle.rules.specs.Mosts.{mosts}
use Rattle.rules.specs.Script.{Program}
use Rattle.rules.specs.State.{Frame, State, thread_at, slot_at}
use Rattle.rules.specs.Tables.{no_frame, outermost_first}
use Rattle.rules.specs.Fits.{Fits}
use Rattle.rules.specs.Reach.{count, slots_of, roots, Walked, done}
use Rattle.rules.proofs.Counts.{count_append}
use Rattle.rules.proofs.Keeps.{thread_fits}
use Rattle.rules.proofs.Reports.{in_flight_made}
use Rattle.rules.proofs.TableWords.{length_outermost}
use Rattle.table.specs.StateTable.{InTable, Held, Sees, Any, frame_at}
use Rattle.table.proofs.Places.{has_place, frame_slots_fit, slot_in_range}
use Rattle.walk.specs.Walking.{Tally, Walks, Of}
use Rattle.walk.proofs.WalkSteps.{walk_then, SeenAt, row_ends}
use Rattle.reach.specs.Reported.{WalksThread, SeesInFlight, WalksRoots}

-- ---- Frames

pub slot_seen : {s : List ℕ} {v : Value} (t k i : ℕ) → Sees s (λ S. InTable (slot_at (frame_at S t k).slots i)) (λ S. slot_at (frame_at S t k).slots i) v
    → SeenAt s Any (λ S. (frame_at S t k).slots) i v
slot_seen {s} {v} t k i seen =
    record { is = is; within = λ P n S rest held fits any. subst (λ (x : Value). Of x S) (sym (is P n S rest held fits any)) (slot_in_range fits t k i) }
  where
    is : (P : Program) (n : ℕ) (S : State) (rest : List ℕ) → Held s S rest → Fits mosts P n S → Any S → v ≡ slot_at (frame_at S t k).slots i
    is P n S rest held fits any = seen.sees S rest held (has_place fits (slot_at (frame_at S t k).slots i) (slot_in_range fits t k i))

pub frame_walked : {s : List ℕ} {w w₁ : Tally} (t k i : ℕ) → Most.slots ≤ i
    → Walks s w Any (λ S. take i (frame_at S t k).slots) w₁ → Walks s w Any (λ S. (frame_at S t k).slots) w₁
frame_walked t k i all whole = row_ends (λ S. (frame_at S t k).slots) i (λ P n S fits any. omega (arith, (frame_slots_fit fits t k).few)) whole

slots_snoc : (fs : List Frame) (f : Frame) → slots_of (fs ++ (f ∷ [])) ≡ slots_of fs ++ f.slots
unfolding slots_of
slots_snoc [] f = append-nil f.slots
slots_snoc (g ∷ fs) f = ap (g.slots ++◌) (slots_snoc fs f) ∙ sym (append_assoc g.slots (slots_of fs) f.slots)

-- the order of the frames does not change a count
count_outermost : (x : ℕ) (fs : List Frame) → count x (slots_of (outermost_first fs)) ≡ count x (slots_of fs)
unfolding slots_of outermost_first
count_outermost x [] = refl
count_outermost x (f ∷ fs) =
    ap (count x) (slots_snoc (outermost_first fs) f)
    ∙ omega (arith, count_append x (slots_of (outermost_first fs)) f.slots, count_append x f.slots (slots_of fs), count_outermost x fs)

-- the slots of the k outermost frames
pub slots_to : ℕ → ℕ → State → List Value
slots_to t k S = slots_of (take k (outermost_first (thread_at S t).frames))

slots_next : (t k : ℕ) (S : State) → k < length (thread_at S t).frames → slots_to t (k + 1) S ≡ slots_to t k S ++ (frame_at S t k).slots
unfolding slots_to frame_at
slots_next t k S there =
    let outer : List Frame = outermost_first (thread_at S t).frames in
    ap (λ m. slots_of (take m outer)) (add-one k) ∙ ap slots_of (take-suc outer k no_frame (omega (arith, length_outermost (thread_at S t).frames)))
    ∙ slots_snoc (take k outer) (get_or outer k no_frame)

module _ {s : List ℕ} {w : Tally} (t : ℕ) where
  pub no_frame_yet : Walks s w Any (slots_to t 0) w
  unfolding slots_to slots_of
  no_frame_yet = record { walks = λ P n S rest met held fits q numbered. record { out = met; walked = done; numbered = numbered } }

  module _ {d : ℕ} (counted : Sees s Any (λ S. length (thread_at S t).frames) d) (k : ℕ) where
    pub frame_next : {w₁ w₂ : Tally} → k < d → Walks s w Any (slots_to t k) w₁ → Walks s w₁ Any (λ S. (frame_at S t (k % 16)).slots) w₂
        → Walks s w Any (slots_to t (k + 1)) w₂
    frame_next more first next =
        record {
          walks = λ P n S rest met held fits q numbered.
              let there : k < length (thread_at S t).frames = omega (arith, counted.sees S rest held tt) in
              let place : k % 16 ≡ k = mod-eq_of_lt (omega (arith, there, (thread_fits fits t).few)) in
              let so = first.walks P n S rest met held fits tt numbered in
              let then = next.walks P n S rest so.out held fits tt so.numbered in
              record { out = then.out; walked = rw (slots_next t k S there) (walk_then so.walked (rw place at then.walked)); numbered = then.numbered };
        }

    pub thread_walked : {w₁ : Tally} → d ≤ k → Walks s w Any (slots_to t k) w₁ → WalksThread s w t w₁
    unfolding slots_to
    thread_walked all frames =
        record {
          walks = λ P n S rest met held fits numbered.
              let fs = (thread_at S t).frames in
              let so = frames.walks P n S rest met held fits tt numbered in
              let whole = take_all k (outermost_first fs) (omega (arith, counted.sees S rest held tt, length_outermost fs)) in
              record {
                values = slots_of (outermost_first fs);
                same = λ x. count_outermost x fs;
                walked_to = record {
                  out = so.out;
                  walked = subst (λ (gs : List Frame). Walked S.objects met (slots_of gs) so.out) whole so.walked;
                  numbered = so.numbered;
                };
              };
        }

-- its slots, and then the message that it put
pub roots_walked : {p s : List ℕ} {w w₁ w₂ : Tally} {t : ℕ} {v : Value} → WalksThread s w t w₁ → SeesInFlight p s t v
    → Walks s w₁ (Of v) (λ S. v ∷ []) w₂ → WalksRoots p s w t w₂
unfolding roots
roots_walked {t = t} {v = v} slots message last =
    record {
      walks = λ P n S rest met loaded held valid fits numbered.
          let is = message.is P n S rest loaded held valid fits in
          let so = slots.walks P n S rest met held fits numbered in
          let then = last.walks P n S rest so.walked_to.out held fits (subst (λ (x : Value). Of x S) (sym is) (in_flight_made fits t)) so.walked_to.numbered in
          let fs = (thread_at S t).frames in
          record {
            values = so.values ++ (v ∷ []);
            same = λ x. subst (λ (y : Value). count x (so.values ++ (v ∷ [])) ≡ count x (slots_of fs ++ (y ∷ []))) is
                (omega (arith, count_append x so.values (v ∷ []), count_append x (slots_of fs) (v ∷ []), so.same x));
            walked_to = record { out = then.out; walked = walk_then so.walked_to.walked then.walked; numbered = then.numbered };
          };
    }
