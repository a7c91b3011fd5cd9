-- The lines of the graph: what a node's calls write is its line; and an object's edges, each one more than what is written so far.
use Rattle.std.proofs.Common.{ℕ, ◌+◌, ◌*◌, ◌≤◌, ◌<◌, zero-add, add-one, arith, ◌≡◌, refl, ap, List, [], ◌++◌, append-nil, ltb, length, take, take_all, ltb-false}
use Rattle.std.proofs.Math.ListN.{get_or-eq_default}
use Rattle.rules.specs.declared.Cap.{Cap}
use Rattle.rules.specs.declared.Value.{Value}
use Rattle.rules.specs.declared.Value.TheVariants.{Absent, Obj, Chan}
use Rattle.rules.specs.Mosts as Most
use Rattle.rules.specs.Text.{bytes}
use Rattle.rules.specs.Templates.{print}
use Rattle.rules.specs.State.{object_at, slot_at}
use Rattle.rules.specs.Listing.{numbered}
use Rattle.rules.specs.Drawing.{look, node_t, edge_line, edge_lines}
use Rattle.rules.proofs.ListLaws.{by_bool, below}
use Rattle.rules.proofs.Keeps.{object_fits}
use Rattle.table.specs.StateTable.{Sees, FieldIn}
use Rattle.table.proofs.Places.{field_in}
use Rattle.buffer.specs.declared.Output.{Output}
use Rattle.buffer.specs.Outputs.{Wrote}
use Rattle.listing.specs.StateWriting.{Writes}
use Rattle.listing.proofs.StateTexts.{of_seen, ◌▹◌, same_texts, none_yet}
use Rattle.listing.proofs.LineTexts.{no_lines, line_next}

-- a node's line, by its capability
abbrev pub node_text : ℕ → Cap → List ℕ
node_text n k = print node_t (n, (n, (k, tt))) ++ (look k ++ bytes "];\n")

-- no edge for what is not an object
pub no_edge : (o j : ℕ) (v : Value) → ((n : ℕ) → v ≡ Obj n → ⊥) → [] ≡ edge_line o j v
unfolding edge_line
no_edge o j Absent other = refl
no_edge o j (Chan c) other = refl
no_edge o j (Obj n) other = absurd (other n refl)

-- one field more; past the last one there is no edge
edge_next : (o : ℕ) (vs : List Value) (j : ℕ) → numbered (edge_line o) 0 (take j vs) ++ edge_line o j (slot_at vs j) ≡ numbered (edge_line o) 0 (take (j + 1) vs)
unfolding slot_at edge_line
edge_next o vs j =
    by_bool (ltb j (length vs))
    (λ t. rw (add-one j) (line_next (edge_line o) 0 vs j j Absent (zero-add j) (below t)))
    (λ t. past (ltb-false j (length vs) t))
  where
    past : length vs ≤ j → numbered (edge_line o) 0 (take j vs) ++ edge_line o j (slot_at vs j) ≡ numbered (edge_line o) 0 (take (j + 1) vs)
    past h = rw (get_or-eq_default vs Absent h, append-nil (numbered (edge_line o) 0 (take j vs)), take_all j vs h, take_all (j + 1) vs (omega arith)) refl

module _ {s : List ℕ} {out : Output} (o : ℕ) where
  pub no_edge_yet : out.at ≤ length out.buf.now
      → Writes (34 * 0) s out out (λ S. o < length S.objects) (λ S. numbered (edge_line o) 0 (take 0 (object_at S.objects o).fields))
  no_edge_yet there = none_yet (34 * 0) (λ S. numbered (edge_line o) 0 []) (λ S. no_lines (edge_line o) 0) there

  pub edge_after : {out₁ out₂ : Output} {v : Value} (j : ℕ)
      → Writes (34 * j) s out out₁ (λ S. o < length S.objects) (λ S. numbered (edge_line o) 0 (take j (object_at S.objects o).fields))
      → Sees s (FieldIn o j) (λ S. slot_at (object_at S.objects o).fields j) v → Wrote 34 out₁ out₂ (edge_line o j v)
      → Writes (34 * (j + 1)) s out out₂ (λ S. o < length S.objects) (λ S. numbered (edge_line o) 0 (take (j + 1) (object_at S.objects o).fields))
  edge_after j a seen w =
      same_texts (34 * (j + 1)) (λ P n S rest held fits made. edge_next o (object_at S.objects o).fields j) (omega arith)
      (a ▹ of_seen {Q = λ S. o < length S.objects} (edge_line o j) (λ P n S fits made. field_in fits o j made) seen w)

  pub all_edges : {out₁ : Output} (j : ℕ) → Most.fields ≤ j → j ≤ Most.fields
      → Writes (34 * j) s out out₁ (λ S. o < length S.objects) (λ S. numbered (edge_line o) 0 (take j (object_at S.objects o).fields))
      → Writes 136 s out out₁ (λ S. o < length S.objects) (λ S. edge_lines o (object_at S.objects o))
  unfolding edge_lines
  all_edges j all few a =
      same_texts 136
      (λ P n S rest held fits made. ap (numbered (edge_line o) 0) (take_all j (object_at S.objects o).fields (omega (arith, (object_fits fits o made).few))))
      (omega arith) a
