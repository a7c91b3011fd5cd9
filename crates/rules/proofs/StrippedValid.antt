-- The stripped script is valid where the script is: stripping changes no slot, number, kind or sort, and a copy to unsafe is allowed.
use Prim.Native.Nat.{ℕ, suc, ◌+◌}
use mathlib.Core.Path.{◌≡◌, refl, ap, ap₂, ◌∙◌}
use mathlib.Core.List.{List, [], ◌∷◌, map}
use lib.ListN.{length, length-map, get_or-map}
use Rattle.rules.specs.declared.Mosts.{Mosts}
use Rattle.rules.specs.Script.{Expr, value, field, swap, call, new, cast, spawn, send, recv, copy, Sort, Kind, Block, Program, no_block, kind_at, block_at}
use Rattle.rules.specs.Valid.{IsBlock, IsKind, ExprOk, LetsOk, BlockOk, KindOk, let_count, Valid}
use Rattle.rules.specs.Stripped.{strip_expr, strip_block, strip}
use Rattle.rules.proofs.ListLaws.{every_map, every_image}

module _ (P : Program) where
  is_block : (o : Sort) (b : ℕ) → IsBlock P o b → IsBlock (strip P) o b
  unfolding block_at strip strip_block
  is_block o b is = record {
    there = rw (length-map P.blocks strip_block) is.there;
    sort = ap (λ (B : Block). B.sort) (get_or-map strip_block P.blocks b no_block) ∙ is.sort;
  }

  is_kind : (n k : ℕ) → IsKind P n k → IsKind (strip P) n k
  unfolding kind_at strip
  is_kind n k is = record { there = is.there; fields = is.fields }

  expr_ok : (o : Sort) (n : ℕ) (e : Expr) → ExprOk P o n e → ExprOk (strip P) o n (strip_expr e)
  unfolding strip_expr
  expr_ok o n (value w) h = h
  expr_ok o n (field s f) h = h
  expr_ok o n (swap s f w) h = h
  expr_ok o n (call s i w) h = h
  expr_ok o n (new k i ws) h = (is_kind i (length ws) h.0, h.1)
  expr_ok o n (cast k w) h = h
  expr_ok o n (spawn b) h = is_block _ b h
  expr_ok o n (send s w) h = h
  expr_ok o n (recv s) h = h
  expr_ok o n (copy k s) h = (h.0, tt)

  lets_ok : (o : Sort) (n : ℕ) (es : List Expr) → LetsOk P o n es → LetsOk (strip P) o n (map strip_expr es)
  lets_ok o n [] h = tt
  lets_ok o n (e ∷ es) h = (expr_ok o n e h.0, lets_ok o (suc n) es h.1)

  block_ok : (B : Block) → BlockOk P B → BlockOk (strip P) (strip_block B)
  unfolding strip_block
  block_ok B h = record {
    few = rw (length-map B.lets strip_expr) h.few;
    lets = lets_ok B.sort _ B.lets h.lets;
    result = rw (length-map B.lets strip_expr) h.result;
  }

  kind_ok : (K : Kind) → KindOk P K → KindOk (strip P) K
  kind_ok K h = record { few_fields = h.few_fields; few_methods = h.few_methods; methods = every_map (is_block _) K.methods h.methods }

same_lets : (Bs : List Block) → let_count (map strip_block Bs) ≡ let_count Bs
unfolding let_count strip_block
same_lets [] = refl
same_lets (B ∷ Bs) = ap₂ ◌+◌ (length-map B.lets strip_expr) (same_lets Bs)

pub stripped_valid : (m : Mosts) (P : Program) → Valid m P → Valid m (strip P)
unfolding strip
stripped_valid m P valid = record {
  kinds = every_map (kind_ok P) P.kinds valid.kinds;
  blocks = every_image (BlockOk (strip P)) strip_block P.blocks (every_map (block_ok P) P.blocks valid.blocks);
  few_kinds = valid.few_kinds;
  few_blocks = rw (length-map P.blocks strip_block) valid.few_blocks;
  few_lets = rw (same_lets P.blocks) valid.few_lets;
  first = is_block P _ 0 valid.first;
}
