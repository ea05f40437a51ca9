-- The names that two environments give the operators of the same bytes, where at most the ids of locals differ.
use Rattle.std.proofs.Common.{◌≡◌, ℕ, List, [], ◌∷◌, map, Result, Ok, refl, sym, ap, ◌∙◌}
use Rattle.wasm_operators.specs.declared.types.Space.{Space}
use Rattle.wasm_operators.specs.declared.types.BlockType.{BlockType}
use Rattle.wasm_operators.specs.Operations.{Immediate, local, label, clauses, block, cast, RawOperation}
use Rattle.walrus_ir.specs.Types.{Signature}
use Rattle.wasm_numbers.specs.Results.{◌>>=◌, with_fault}
use Rattle.wasm_body.specs.declared.error.ParseError.{ParseError}
use Rattle.wasm_body.specs.declared.error.ParseError.TheVariants.{Index}
use Rattle.wasm_body.specs.Control.{Role, a_catch, a_throw, a_rethrow, a_branch, a_conditional_branch, a_table_branch, a_delegate, a_try_table, role_of, Throw, Rethrow, Branch, ConditionalBranch, Does, Opens, Catch, Delegate, TryTable, control_by, control_of, first_label, first_depth, first_index, branches, catch_list}
use Rattle.wasm_body.specs.Frames.{SequenceFrame, outside}
use Rattle.wasm_body.specs.Translation.{Translation, keeping_numbers, translate, translate_immediate, translate_immediates}
use Rattle.wasm_body.specs.Naming.{Environment, NamedOperation, Occurrence, naming, id_at, name_block, block_types}
use Rattle.wasm_body.proofs.Translation.Steps.{Leads, bound, all_of}
use Rattle.wasm_body.proofs.Translation.Translations.{LeadAll, lead_all, translate_leads, same, translate_same}
use Rattle.wasm_body.proofs.NormalForm.KeptNames.{open_same, handler_same}
use Rattle.wasm_body.proofs.Parsing.NamingLemmas.{same_opcode}

abbrev unchanging : Translation ℕ Signature ℕ Signature ParseError
unchanging = same

-- ---- names, whatever sequences are open

abbrev pub naming_anywhere : Environment → Translation ℕ BlockType ℕ Signature ParseError
naming_anywhere env = record (keeping_numbers (λ n. Ok n) (name_block env) (λ e. e)) { index = id_at env; local = λ n. with_fault Index (env.local_of n) }

module _ (env : Environment) (fs : List (SequenceFrame Occurrence)) where
  anywhere_lead : LeadAll (naming env fs) unchanging (naming_anywhere env)
  anywhere_lead = record {
    indices = λ space n q e. sym e;
    locals = λ n q e. sym e;
    labels = λ n q e. ap Ok (open_same fs n q e);
    handlers = λ n q e. ap Ok (handler_same fs n q e);
    outers = λ n q e. ap Ok (open_same (outside fs) n q e);
    numbers = λ n q e. sym e;
    alignments = λ n. refl;
    counts = λ n u e. refl;
  }

  translated_immediates : (o : RawOperation) (named : NamedOperation) → translate (naming env fs) o ≡ Ok named → translate_immediates (naming env fs) o.immediates ≡ Ok named.immediates
  translated_immediates o named e =
      let first = bound (translate_immediates (naming env fs) o.immediates) (λ is. Ok (record { opcode = o.opcode; immediates = is })) named e in
      let is : record { opcode = o.opcode; immediates = first.0 } ≡ named = cc first.2 in
      first.1 ∙ ap (λ (n : NamedOperation). Ok n.immediates) is

  named_anywhere : (o : RawOperation) (named : NamedOperation) → translate (naming env fs) o ≡ Ok named → translate_immediates (naming_anywhere env) o.immediates ≡ Ok named.immediates
  named_anywhere o named e =
      sym (translate_leads (naming env fs) unchanging (naming_anywhere env) o.immediates
      (lead_all (naming env fs) unchanging (naming_anywhere env) anywhere_lead o.immediates (all_of (Leads (naming env fs).block unchanging.block (naming_anywhere env).block) (λ b s h. sym h) (block_types o.immediates)))
      named.immediates (translated_immediates o named e))
      ∙ translate_same named.immediates

-- ---- from one environment to the other

-- the same, with this for the id of a local
abbrev pub with_other_locals : (ℕ → Result ℕ ParseError) → Translation ℕ Signature ℕ Signature ParseError
with_other_locals other = record unchanging { local = other }

-- What has an id or a signature in the first has the same in the second; only ids of locals become these others.
pub record HasOtherLocalIds (env env' : Environment) (other : ℕ → Result ℕ ParseError) : Type 0 where
  pub ids : (space : Space) (n id : ℕ) → id_at env space n ≡ Ok id → id_at env' space n ≡ Ok id
  pub locals : (n id : ℕ) → with_fault Index (env.local_of n) ≡ Ok id → other id ≡ with_fault Index (env'.local_of n)
  pub blocks : (b : BlockType) (s : Signature) → name_block env b ≡ Ok s → name_block env' b ≡ Ok s

-- The name becomes the other one.
pub record IsRenamed (other : ℕ → Result ℕ ParseError) (named renamed : NamedOperation) : Type 0 where
  pub opcode : renamed.opcode ≡ named.opcode
  pub immediates : translate_immediates (with_other_locals other) named.immediates ≡ Ok renamed.immediates

pub renamed :
    (env env' : Environment) (other : ℕ → Result ℕ ParseError) → HasOtherLocalIds env env' other → (fs gs : List (SequenceFrame Occurrence)) (o : RawOperation) (x y : NamedOperation) →
    translate (naming env fs) o ≡ Ok x → translate (naming env' gs) o ≡ Ok y → IsRenamed other x y
renamed env env' other h fs gs o x y e d =
    let f = naming_anywhere env in
    let g = with_other_locals other in
    let k = naming_anywhere env' in
    let leads : LeadAll f g k = record {
      indices = λ space n q e. sym (h.ids space n q e);
      locals = λ n q e. h.locals n q e;
      labels = λ n q e. sym e;
      handlers = λ n q e. sym e;
      outers = λ n q e. sym e;
      numbers = λ n q e. sym e;
      alignments = λ n. refl;
      counts = λ n u e. refl;
    } in
    record {
      opcode = same_opcode (naming env' gs) o y d ∙ sym (same_opcode (naming env fs) o x e);
      immediates =
          translate_leads f g k o.immediates (lead_all f g k leads o.immediates (all_of (Leads f.block g.block k.block) (λ b s h'. sym (h.blocks b s h')) (block_types o.immediates)))
          x.immediates (named_anywhere env fs o x e)
          ∙ named_anywhere env' gs o y d;
    }

-- ---- what else of an operator stays

-- an immediate without the id of a local
abbrev bare : Immediate ℕ Signature → Immediate ℕ Signature
bare (local n) = local 0
bare i = i

pub unchanged : (i j : Immediate ℕ Signature) → translate_immediate unchanging i ≡ Ok j → i ≡ j
unchanged i j e =
    let both = bound (translate_immediate unchanging i) (λ y. Ok (y ∷ [])) (i ∷ []) (translate_same (i ∷ [])) in
    let is : both.0 ∷ [] ≡ i ∷ [] = cc both.2 in
    let first : both.0 ≡ i = cc is in
    let other : both.0 ≡ j = cc (both.1, e) in
    sym first ∙ other

module _ (other : ℕ → Result ℕ ParseError) where
  one_bare : (i j : Immediate ℕ Signature) → translate_immediate (with_other_locals other) i ≡ Ok j → bare i ≡ bare j
  one_bare (local n) j e =
      let m = bound (other n) (λ m. Ok (local m)) j e in
      let is : local m.0 ≡ j = cc m.2 in
      ap bare is
  one_bare i j e = ap bare (unchanged i j e)

  all_bare : (is js : List (Immediate ℕ Signature)) → translate_immediates (with_other_locals other) is ≡ Ok js → map bare is ≡ map bare js
  all_bare [] js e = let is : [] ≡ js = cc e in ap (map bare) is
  all_bare (i ∷ is) js e =
      let first = bound (translate_immediate (with_other_locals other) i) (λ y. translate_immediates (with_other_locals other) is >>= λ ys. Ok (y ∷ ys)) js e in
      let others = bound (translate_immediates (with_other_locals other) is) (λ ys. Ok (first.0 ∷ ys)) js first.2 in
      let made : first.0 ∷ others.0 ≡ js = cc others.2 in
      (λ k. one_bare i first.0 first.1 k ∷ all_bare is others.0 others.1 k) ∙ ap (map bare) made

first_label_bare : (is : List (Immediate ℕ Signature)) → first_label (map bare is) ≡ first_label is
first_label_bare [] = refl
first_label_bare (label n ∷ is) = refl
first_label_bare (cast c ∷ is) = refl
first_label_bare (_ ∷ is) = first_label_bare is

first_depth_bare : (is : List (Immediate ℕ Signature)) → first_depth (map bare is) ≡ first_depth is
first_depth_bare [] = refl
first_depth_bare (local n ∷ is) = refl
first_depth_bare (_ ∷ is) = refl

first_index_bare : (is : List (Immediate ℕ Signature)) → first_index (map bare is) ≡ first_index is
first_index_bare [] = refl
first_index_bare (local n ∷ is) = refl
first_index_bare (_ ∷ is) = refl

branches_bare : (is : List (Immediate ℕ Signature)) → branches (map bare is) ≡ branches is
branches_bare [] = refl
branches_bare (local n ∷ is) = refl
branches_bare (_ ∷ is) = refl

catch_list_bare : (is : List (Immediate ℕ Signature)) → catch_list (map bare is) ≡ catch_list is
catch_list_bare [] = refl
catch_list_bare (clauses cs ∷ is) = refl
catch_list_bare (_ ∷ is) = catch_list_bare is

block_types_bare : (is : List (Immediate ℕ Signature)) → block_types (map bare is) ≡ block_types is
block_types_bare [] = refl
block_types_bare (block s ∷ is) = ap (λ ss. s ∷ ss) (block_types_bare is)
block_types_bare (_ ∷ is) = block_types_bare is

control_bare : (r : Role) (is : List (Immediate ℕ Signature)) → control_by r (map bare is) ≡ control_by r is
control_bare a_catch is = ap Catch (first_index_bare is)
control_bare a_throw is = ap (λ n. Does (Throw n)) (first_index_bare is)
control_bare a_rethrow is = ap (λ n. Does (Rethrow n)) (first_depth_bare is)
control_bare a_branch is = ap (λ n. Does (Branch n)) (first_label_bare is)
control_bare a_conditional_branch is = ap (λ n. Does (ConditionalBranch n)) (first_label_bare is)
control_bare a_table_branch is = ap Does (branches_bare is)
control_bare a_delegate is = ap Delegate (first_depth_bare is)
control_bare a_try_table is = ap (λ cs. Opens (TryTable cs)) (catch_list_bare is)
control_bare _ is = refl

module _ (other : ℕ → Result ℕ ParseError) (x y : NamedOperation) (h : IsRenamed other x y) where
  pub same_control : control_of y ≡ control_of x
  same_control =
      ap (λ c. control_by (role_of c) y.immediates) h.opcode
      ∙ (sym (control_bare (role_of x.opcode) y.immediates)
      ∙ (ap (control_by (role_of x.opcode)) (sym (all_bare other x.immediates y.immediates h.immediates))
      ∙ control_bare (role_of x.opcode) x.immediates))

  pub same_block_types : block_types y.immediates ≡ block_types x.immediates
  same_block_types =
      sym (block_types_bare y.immediates) ∙ (ap block_types (sym (all_bare other x.immediates y.immediates h.immediates)) ∙ block_types_bare x.immediates)
