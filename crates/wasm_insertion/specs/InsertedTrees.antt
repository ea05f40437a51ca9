-- The tree of a body with inserted operators.
use Rattle.std.specs.Prelude.{◌≡◌, List, []}
use Rattle.walrus_ir.specs.Tree.{Items, no_items, item, Sequences, no_sequences, sequence}
use Rattle.wasm_body.specs.SourceTree.{Body, map_body}
use Rattle.wasm_body.specs.FunctionTree.{Head, Instruction}
use Rattle.wasm_body.specs.NormalForm.{Typing, instruction, normal_form}
use Rattle.wasm_body.specs.Typed.{AreTyped}
use Rattle.wasm_body.specs.ExecutionLaws.{HasTextAlike}
use Rattle.wasm_body.specs.Flat.{Named}
use Rattle.wasm_insertion.specs.Insertion.{Origin, without_origin, InsertedBody, IsInsertedText}

-- The second items are the first, with instructions inserted that have no sequences. Sequences have the same types; the locations of
-- their ends may be others.
mutual
  pub data InsertedItems : Items Head Instruction → Items Head Instruction → Type 0 where
    no_item : InsertedItems no_items no_items
    added_item : (p : Named) {is js : Items Head Instruction} → InsertedItems is js → InsertedItems is (item (instruction p []) no_sequences js)
    same_item : {i : Instruction} {ss ts : Sequences Head Instruction} {is js : Items Head Instruction} → InsertedSequences ss ts → InsertedItems is js
        → InsertedItems (item i ss is) (item i ts js)

  pub data InsertedSequences : Sequences Head Instruction → Sequences Head Instruction → Type 0 where
    no_sequence : InsertedSequences no_sequences no_sequences
    same_sequence : {h k : Head} {is js : Items Head Instruction} {ss ts : Sequences Head Instruction} → h.type ≡ k.type → InsertedItems is js → InsertedSequences ss ts
        → InsertedSequences (sequence h is ss) (sequence k js ts)

-- The normal form of the body with inserted operators is the source's, with instructions inserted; and it has a text, which executes
-- alike with these operators.
pub record InsertedNormalForm (m : Typing) (b : Body Named) (ys : List Named) (c : Body (Origin Named Named)) : Type 0 where
  pub items : InsertedItems (normal_form m b).items (normal_form m (map_body without_origin c)).items
  pub text : HasTextAlike m (normal_form m (map_body without_origin c)) ys

abbrev pub InsertedNormalForms : Type 0
InsertedNormalForms =
    (m : Typing) (ys : List Named) (b : Body Named) (c : Body (Origin Named Named)) → InsertedBody b c → IsInsertedText ys c → AreTyped m ys →
    InsertedNormalForm m b ys c
