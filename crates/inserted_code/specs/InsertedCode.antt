-- What is written for the body of a function of a module into which a tool inserts instructions: what `change_all` keeps of it, with its location
-- pairs (`IsChangedWith`).
use Rattle.std.specs.Prelude.{◌≡◌, ℕ, List, [], ◌++◌, map, slice_get, Some}
use Rattle.walrus_ir.specs.declared.seq.InstrSeq.{InstrSeq}
use Rattle.walrus_ir.specs.Function.{with_sequence}
use Rattle.walrus_ir.specs.Tree.{Items}
use Rattle.wasm_body.specs.Flat.{Named}
use Rattle.wasm_body.specs.FunctionTree.{Head, Instruction, FunctionTree}
use Rattle.wasm_body.specs.LocationLaws.{LocationsAgree}
use Rattle.wasm_body.specs.Naming.{Environment}
use Rattle.wasm_body.specs.NormalForm.{Typing, typing_of, normal_form, name_at, named_body}
use Rattle.wasm_body.specs.Pairs.{Pair}
use Rattle.wasm_body.specs.SourceTree.{Body}
use Rattle.wasm_body.specs.TextLaws.{IsTextOf}
use Rattle.wasm_body.specs.ValidityLaws.{KnownOperand}
use Rattle.wasm_insertion.specs.EditedTrees.{EditedItems, edited_tree, IsEditedBody}
use Rattle.walrus_maps.specs.Environments.{environment_of}
use Rattle.walrus_insertion.specs.declared.plain_instr.PlainInstr.{PlainInstr}
use Rattle.walrus_insertion.specs.Edits.{added}
use Rattle.walrus_insertion.specs.BegunBodies.{inserted_operators, begun_form, IsBegunText}
use Rattle.walrus_insertion.specs.InsertedInstructions.{TreesAreEdited}
use Rattle.walrus_metering.specs.declared.costs.Costs.{Costs}
use Rattle.walrus_metering.specs.declared.charge.Charge.{Charge}
use Rattle.walrus_metering.specs.MeteredInstructions.{metered_function}
use Rattle.walrus_metering.specs.MeteredTexts.{IsMeteredText}
use Rattle.walrus_body.specs.FunctionParts.{FunctionParts}
use Rattle.walrus_body.specs.LocalFunctions.{first_slot, HasEntry}
use Rattle.walrus_numbering.specs.NumberMaps.{numbers_by}
use Rattle.walrus_rewrite.specs.RawBodies.{IsRawBody}
use Rattle.walrus_rewrite.specs.RewrittenBodies.{PlacesRise}
use Rattle.wasm_module.specs.declared.parsed.ParsedModule.{ParsedModule}
use Rattle.wasm_module.specs.RewrittenCode.{IsAccepted, IsChangedWith, keeps_locals}
use Rattle.wasm_sections.specs.CodeSections.{BodyAt}

-- ---- the source's body, which is accepted

module _ {source : ParsedModule} {function : ℕ} {b : BodyAt} {now : ParsedModule} where
  -- the environment in which its operators are named
  abbrev pub accepted_environment : IsAccepted source function b now → Environment
  accepted_environment a = environment_of now.module now.spaces.indices 0 a.entered.type

  abbrev pub accepted_typing : IsAccepted source function b now → Typing
  accepted_typing a = typing_of (accepted_environment a)

  -- the names of its operators, and the body that they form
  abbrev pub accepted_names : IsAccepted source function b now → List Named
  accepted_names a = map name_at a.accepted.operators

  abbrev pub accepted_body : IsAccepted source function b now → Body Named
  accepted_body a = named_body a.tree

  -- The bytes are the raw body of this tree, with the numbers of the module, and with these location pairs.
  abbrev pub IsRawCode : IsAccepted source function b now → FunctionTree → (raw : List ℕ) → List Pair → Type 0
  IsRawCode a tree raw pairs =
      IsRawBody (record { to = numbers_by now.module.types now.spaces.numbers []; types = now.module.locals; args = a.entered.args }) tree raw pairs

-- The list is the text of the tree. The pairs contain the locations of its operators, and give those of these operators along each run.
pub record HasHonestPairs (m : Typing) (tree : FunctionTree) (text operators : List Named) (pairs : List Pair) : Type 0 where
  pub is_text : IsTextOf m tree text
  pub locations : map (λ (p : Pair). p.0) pairs ≡ map (λ y. y.location) text
  pub places : PlacesRise pairs
  pub honest : LocationsAgree pairs text operators

-- ---- functions that charge what they execute

-- The bytes are those of the source with charges between.
pub record IsChargedCode (costs : Costs) (charge : Charge) (source : ParsedModule) (function : ℕ) (b : BodyAt) (raw : List ℕ) (pairs : List Pair) : Type 0 where
  pub now : ParsedModule
  pub accepted : IsAccepted source function b now
  pub tree : FunctionTree
  pub is_raw : IsRawCode accepted tree raw pairs
  pub metered : IsMeteredText KnownOperand costs charge (accepted_typing accepted) tree (accepted_names accepted) (accepted_body accepted)
  pub has_pairs : HasHonestPairs (accepted_typing accepted) tree metered.written.text metered.operators pairs

-- the change that `meter` makes
abbrev pub Charges : Costs → Charge → (old new : FunctionParts) → Type 0
Charges costs charge old new = new ≡ record old { builder = metered_function costs charge old.builder }

abbrev pub ChargedCode : Type 0
ChargedCode =
    (costs : Costs) (charge : Charge) (source : ParsedModule) (function : ℕ) (b : BodyAt) (raw : List ℕ) (pairs : List Pair) →
    IsChangedWith (keeps_locals (λ index. Charges costs charge)) source function b raw pairs → IsChargedCode costs charge source function b raw pairs

-- ---- functions that begin with instructions more

-- The bytes are those of the operators of these instructions and then of the source.
pub record IsBegunCode (ps : List PlainInstr) (source : ParsedModule) (function : ℕ) (b : BodyAt) (raw : List ℕ) (pairs : List Pair) : Type 0 where
  pub now : ParsedModule
  pub accepted : IsAccepted source function b now
  pub is_raw : IsRawCode accepted (begun_form (accepted_typing accepted) ps (accepted_body accepted)) raw pairs
  pub begun : IsBegunText KnownOperand (accepted_typing accepted) ps (accepted_names accepted) (accepted_body accepted)
  pub has_pairs :
      HasHonestPairs (accepted_typing accepted) (begun_form (accepted_typing accepted) ps (accepted_body accepted)) begun.written.text (inserted_operators ps ++ accepted_names accepted) pairs

-- A function begins with these instructions more, and all else is as it was.
abbrev pub BeginsWith : List PlainInstr → (old new : FunctionParts) → Type 0
BeginsWith ps old new =
    (was : InstrSeq) → slice_get old.builder.sequences (first_slot old.builder) ≡ Some was →
    new ≡ record old { builder = with_sequence old.builder (first_slot old.builder) (record was { instrs = map added ps ++ was.instrs }) }

-- So it is of each function that has an entry, with instructions by its index.
abbrev pub EachBegins : (ps : ℕ → List PlainInstr) → (function : ℕ) → (old new : FunctionParts) → Type 0
EachBegins ps function old new = HasEntry old.builder → BeginsWith (ps function) old new

abbrev pub BegunCode : Type 0
BegunCode =
    (ps : ℕ → List PlainInstr) (source : ParsedModule) (function : ℕ) (b : BodyAt) (raw : List ℕ) (pairs : List Pair) →
    IsChangedWith (keeps_locals (EachBegins ps)) source function b raw pairs → IsBegunCode (ps function) source function b raw pairs

-- ---- functions into which any instructions are inserted

-- The bytes are those of a tree of the source's body with instructions inserted.
pub record IsEditedCode (source : ParsedModule) (function : ℕ) (b : BodyAt) (raw : List ℕ) (pairs : List Pair) : Type 0 where
  pub now : ParsedModule
  pub accepted : IsAccepted source function b now
  pub items : Items Head Instruction
  pub edited : EditedItems (normal_form (accepted_typing accepted) (accepted_body accepted)).items items
  pub is_raw : IsRawCode accepted (edited_tree (accepted_typing accepted) (accepted_body accepted) items) raw pairs
  pub is_edited : IsEditedBody KnownOperand (accepted_typing accepted) (accepted_names accepted) (accepted_body accepted) items

-- Instructions were inserted into the function, and all else is as it was.
pub record Inserts (old new : FunctionParts) : Type 0 where
  pub args : new.args ≡ old.args
  pub entry : new.builder.entry ≡ old.builder.entry
  pub trees : TreesAreEdited old.builder.sequences new.builder.sequences

abbrev pub EditedCode : Type 0
EditedCode =
    (source : ParsedModule) (function : ℕ) (b : BodyAt) (raw : List ℕ) (pairs : List Pair) → IsChangedWith (keeps_locals (λ index old new. Inserts old new)) source function b raw pairs →
    IsEditedCode source function b raw pairs
