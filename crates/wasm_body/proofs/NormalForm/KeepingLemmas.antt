-- The normal form of a sequence after another, and whether they are unreachable.
use Rattle.std.specs.Prelude.{◌≡◌, [], Bool, true, false, ◌||◌}
use Rattle.std.proofs.Common.{refl, ap, ◌∙◌}
use Rattle.walrus_ir.specs.Tree.{Items, item, Sequences, no_sequences}
use Rattle.wasm_body.specs.SourceTree.{Sequence, Empty, Single, Wrapped, IfThen, IfElse, TryCatch, TryDelegate, map_sequence, map_clauses}
use Rattle.wasm_body.specs.Translation.{Located}
use Rattle.wasm_body.specs.Naming.{NamedOperation}
use Rattle.wasm_body.specs.FunctionTree.{Head, Instruction}
use Rattle.wasm_body.specs.NormalForm.{Typing, Fate, Drops, Stays, MakesUnreachable, fate, with_fate, instruction, normal}
use Rattle.wasm_body.specs.Keeping.{unreachable_after, is_unreachable_after, joined_alive}
use Rattle.wasm_body.specs.Parsing.Progress.{append}

-- ---- whether a sequence after another is unreachable

unreachable_or : (f : Fate) (x y : Bool) → unreachable_after f (x || y) ≡ unreachable_after f x || y
unreachable_or Drops x y = refl
unreachable_or Stays x y = refl
unreachable_or MakesUnreachable x y = refl

pub unreachable_append : {A : Type 0} → (s t : Sequence A) → is_unreachable_after (append s t) ≡ is_unreachable_after s || is_unreachable_after t
unreachable_append Empty t = refl
unreachable_append (Single a action r) t = ap (unreachable_after (fate action)) (unreachable_append r t) ∙ unreachable_or (fate action) (is_unreachable_after r) (is_unreachable_after t)
unreachable_append (Wrapped a w b e r) t = unreachable_append r t
unreachable_append (IfThen a b e r) t = unreachable_append r t
unreachable_append (IfElse a b l c e r) t = unreachable_append r t
unreachable_append (TryCatch a b cs r) t = unreachable_append r t
unreachable_append (TryDelegate a b e n r) t = unreachable_append r t

-- ---- the same with other values shown

pub mapped_append : {A B : Type 0} → (g : A → B) (s t : Sequence A) → map_sequence g (append s t) ≡ append (map_sequence g s) (map_sequence g t)
mapped_append g Empty t = refl
mapped_append g (Single a action r) t = ap (Single (g a) action) (mapped_append g r t)
mapped_append g (Wrapped a w b e r) t = ap (Wrapped (g a) w (map_sequence g b) (g e)) (mapped_append g r t)
mapped_append g (IfThen a b e r) t = ap (IfThen (g a) (map_sequence g b) (g e)) (mapped_append g r t)
mapped_append g (IfElse a b l c e r) t = ap (IfElse (g a) (map_sequence g b) (g l) (map_sequence g c) (g e)) (mapped_append g r t)
mapped_append g (TryCatch a b cs r) t = ap (TryCatch (g a) (map_sequence g b) (map_clauses g cs)) (mapped_append g r t)
mapped_append g (TryDelegate a b e n r) t = ap (TryDelegate (g a) (map_sequence g b) (g e) n) (mapped_append g r t)

pub unreachable_mapped : {A B : Type 0} → (g : A → B) (s : Sequence A) → is_unreachable_after (map_sequence g s) ≡ is_unreachable_after s
unreachable_mapped g Empty = refl
unreachable_mapped g (Single a action r) = ap (unreachable_after (fate action)) (unreachable_mapped g r)
unreachable_mapped g (Wrapped a w b e r) = unreachable_mapped g r
unreachable_mapped g (IfThen a b e r) = unreachable_mapped g r
unreachable_mapped g (IfElse a b l c e r) = unreachable_mapped g r
unreachable_mapped g (TryCatch a b cs r) = unreachable_mapped g r
unreachable_mapped g (TryDelegate a b e n r) = unreachable_mapped g r

-- ---- the normal form of a sequence after another

abbrev Kept : Type 0
Kept = Items Head Instruction

item_alive : (d : Bool) (i : Instruction) (ss : Sequences Head Instruction) (x y : Kept) → item i ss (joined_alive d x y) ≡ joined_alive d (item i ss x) y
item_alive true i ss x y = refl
item_alive false i ss x y = refl

fate_alive : (f : Fate) (i : Instruction) (d : Bool) (x y : Kept) → with_fate f i (joined_alive d x y) ≡ joined_alive (unreachable_after f d) (with_fate f i x) y
fate_alive Drops i d x y = refl
fate_alive Stays i d x y = item_alive d i no_sequences x y
fate_alive MakesUnreachable i d x y = refl

abbrev Named : Type 0
Named = Located NamedOperation

after : (m : Typing) (r t : Sequence Named) → normal m (append r t) ≡ joined_alive (is_unreachable_after r) (normal m r) (normal m t) →
    {i : Instruction} {ss : Sequences Head Instruction} → item i ss (normal m (append r t)) ≡ joined_alive (is_unreachable_after r) (item i ss (normal m r)) (normal m t)
after m r t e {i} {ss} = ap (item i ss) e ∙ item_alive (is_unreachable_after r) i ss (normal m r) (normal m t)

pub normal_append : (m : Typing) (s t : Sequence Named) → normal m (append s t) ≡ joined_alive (is_unreachable_after s) (normal m s) (normal m t)
normal_append m Empty t = refl
normal_append m (Single a action r) t =
    ap (with_fate (fate action) (instruction a [])) (normal_append m r t) ∙ fate_alive (fate action) (instruction a []) (is_unreachable_after r) (normal m r) (normal m t)
normal_append m (Wrapped a w b e r) t = after m r t (normal_append m r t)
normal_append m (IfThen a b e r) t = after m r t (normal_append m r t)
normal_append m (IfElse a b l c e r) t = after m r t (normal_append m r t)
normal_append m (TryCatch a b cs r) t = after m r t (normal_append m r t)
normal_append m (TryDelegate a b e n r) t = after m r t (normal_append m r t)
