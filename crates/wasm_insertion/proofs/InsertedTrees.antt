-- The normal form of a body with inserted operators is the source's, with instructions inserted.
use Rattle.std.proofs.Common.{◌≡◌, [], ◌∷◌, refl, sym, ap, ◌∙◌, subst}
use Rattle.walrus_ir.specs.Tree.{Items, item, sequence}
use Rattle.wasm_body.specs.Control.{End, with_control}
use Rattle.wasm_body.specs.SourceTree.{Sequence, TryCatch, Clauses, map_sequence, map_clauses, map_body}
use Rattle.wasm_body.specs.FunctionTree.{Head, Instruction, handles}
use Rattle.wasm_body.specs.Naming.{NamedOperation}
use Rattle.wasm_body.specs.NormalForm.{Typing, Fate, Drops, Stays, MakesUnreachable, fate, with_fate, instruction, normal, handler_sequences, legacy_clauses, head, construct_type, closed_at}
use Rattle.wasm_body.specs.Flat.{Named}
use Rattle.wasm_insertion.specs.Insertion.{Origin, Inserted, empty, insert, single, wrapped, if_then, added_else, if_else, try_catch, try_delegate, ClausesInserted, ended, catches_one, catches_all, without_origin}
use Rattle.wasm_insertion.specs.InsertedTrees.{InsertedItems, no_item, added_item, same_item, InsertedSequences, no_sequence, same_sequence, InsertedNormalForms}
use Rattle.wasm_body.proofs.Structure.Mapped.{text_mapped}
use Rattle.wasm_body.proofs.Executions.NormalForms.{named_executions_kept}

kept_items : (f : Fate) (i : Instruction) (is js : Items Head Instruction) → InsertedItems is js → InsertedItems (with_fate f i is) (with_fate f i js)
kept_items Drops i is js h = h
kept_items Stays i is js h = same_item no_sequence h
kept_items MakesUnreachable i is js h = same_item no_sequence no_item

same_clauses : {cs : Clauses Named} {ds : Clauses (Origin Named Named)} → ClausesInserted cs ds → legacy_clauses cs ≡ legacy_clauses (map_clauses without_origin ds)
same_clauses ended = refl
same_clauses (catches_one {t = t} f g) = ap (λ l. handles t ∷ l) (same_clauses g)
same_clauses (catches_all f) = refl

module _ (m : Typing) where
  mutual
    normal_inserted : {s : Sequence Named} {t : Sequence (Origin Named Named)} → Inserted s t → InsertedItems (normal m s) (normal m (map_sequence without_origin t))
    normal_inserted empty = no_item
    normal_inserted (insert {p = p} h) = added_item p (normal_inserted h)
    normal_inserted (single {a = a} {action = action} {r = r} {r' = r'} h) =
        kept_items (fate action) (instruction a []) (normal m r) (normal m (map_sequence without_origin r')) (normal_inserted h)
    normal_inserted (wrapped f h) = same_item (same_sequence refl (normal_inserted f) no_sequence) (normal_inserted h)
    normal_inserted (if_then f h) =
        same_item (same_sequence refl (normal_inserted f) (same_sequence refl no_item no_sequence)) (normal_inserted h)
    normal_inserted (added_else f g h) =
        same_item (same_sequence refl (normal_inserted f) (same_sequence refl (normal_inserted g) no_sequence)) (normal_inserted h)
    normal_inserted (if_else f g h) =
        same_item (same_sequence refl (normal_inserted f) (same_sequence refl (normal_inserted g) no_sequence)) (normal_inserted h)
    normal_inserted (try_catch {a = a} {b = b} {r = r} {cs = cs} {b' = b'} {r' = r'} {cs' = cs'} f g h) =
        subst (λ l. InsertedItems (normal m (TryCatch a b cs r))
        (item (instruction a l) (sequence (head (construct_type m a.op) (closed_at (map_clauses without_origin cs'))) (normal m (map_sequence without_origin b')) (handler_sequences m a.op (map_clauses without_origin cs'))) (normal m (map_sequence without_origin r'))))
        (same_clauses g)
        (same_item (same_sequence refl (normal_inserted f) (handlers_inserted a.op g)) (normal_inserted h))
    normal_inserted (try_delegate f h) = same_item (same_sequence refl (normal_inserted f) no_sequence) (normal_inserted h)

    handlers_inserted : {cs : Clauses Named} {ds : Clauses (Origin Named Named)} → (o : NamedOperation) → ClausesInserted cs ds
        → InsertedSequences (handler_sequences m o cs) (handler_sequences m o (map_clauses without_origin ds))
    handlers_inserted o ended = no_sequence
    handlers_inserted o (catches_one f g) = same_sequence refl (normal_inserted f) (handlers_inserted o g)
    handlers_inserted o (catches_all f) = same_sequence refl (normal_inserted f) no_sequence

pub inserted_normal_forms : InsertedNormalForms
inserted_normal_forms m ys b c i hy typed = record {
  items = normal_inserted m i.sequence;
  text = named_executions_kept m ys (map_body without_origin c) (hy ∙ sym (text_mapped without_origin c.sequence (with_control c.close End ∷ []))) typed;
}
