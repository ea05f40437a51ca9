-- The operators of an accepted body have the same names in any frames.
use Rattle.std.proofs.Common.{◌≡◌, ℕ, List, [], ◌∷◌, length, map, Result, Ok, refl, sym, ap, ◌∙◌}
use Rattle.std.specs.Prelude.{nat_lt}
use Rattle.std.specs.List.{AllByRecursion}
use Rattle.wasm_numbers.specs.Results.{◌>>=◌, unless, each}
use Rattle.walrus_ir.specs.Types.{Signature}
use Rattle.wasm_numbers.proofs.ResultLemmas.{bind_ok}
use Rattle.wasm_operators.specs.Operations.{Immediate, branch_table, RawOperation, operation}
use Rattle.wasm_operators.specs.declared.types.BlockType.{BlockType}
use Rattle.wasm_body.specs.declared.error.ParseError.{ParseError}
use Rattle.wasm_body.specs.declared.error.ParseError.TheVariants.{NoSuchLabel, RethrowOutsideHandler}
use Rattle.wasm_body.specs.Control.{Marked}
use Rattle.wasm_body.specs.SourceTree.{Body}
use Rattle.wasm_body.specs.Frames.{SequenceFrame, handler_at, outside}
use Rattle.wasm_body.specs.Translation.{translate, translate_immediates}
use Rattle.wasm_body.specs.Naming.{Environment, NamedOperation, Occurrence, block_types, open_label, handler_label, naming, named_in}
use Rattle.wasm_body.specs.Parsing.Accepted.{mark, Lawful}
use Rattle.wasm_body.proofs.Translation.Steps.{all_of, each-ok}
use Rattle.wasm_body.proofs.Translation.Translations.{LeadAll, lead_all, translate_leads, same, translate_same}
use Rattle.wasm_body.proofs.Parsing.NamingLemmas.{named_parts}
use Rattle.wasm_body.proofs.Bytes.LawfulTyped.{named_somewhere}
use Rattle.walrus_parser.specs.Settings.{operators_of}
use Rattle.walrus_run.specs.Namers.{anywhere, HasName}

-- ---- the label of an open construct is unchanged

open_stays : {A : Type 0} (fs : List (SequenceFrame A)) (n l : ℕ) → open_label fs n ≡ Ok l → (let r : Result ℕ ParseError = Ok n in r) ≡ Ok l
open_stays fs n l e = (bind_ok (unless (nat_lt n (length fs)) NoSuchLabel) (λ u. Ok n) l e).2

handler_stays : {A : Type 0} (fs : List (SequenceFrame A)) (n l : ℕ) → handler_label fs n ≡ Ok l → (let r : Result ℕ ParseError = Ok n in r) ≡ Ok l
handler_stays fs n l e =
    let opened = bind_ok (open_label fs n) (λ m. unless (handler_at fs n) RethrowOutsideHandler >>= λ u. Ok n) l e in
    (bind_ok (unless (handler_at fs n) RethrowOutsideHandler) (λ u. Ok n) l opened.2).2

-- ---- so an operator that has a name in some frames has it in any

module _ (env : Environment) where
  leads : (fs : List (SequenceFrame Occurrence)) → LeadAll (naming env fs) same (anywhere env)
  leads fs = record {
    indices = λ space n id e. sym e;
    locals = λ n id e. sym e;
    labels = λ n l e. sym (open_stays fs n l e);
    handlers = λ n l e. sym (handler_stays fs n l e);
    outers = λ n l e. sym (open_stays (outside fs) n l e);
    numbers = λ n m e. sym e;
    alignments = λ n. refl;
    counts = λ n u e. refl;
  }

  named_anywhere : (fs : List (SequenceFrame Occurrence)) (o : RawOperation) (named : NamedOperation) → translate (naming env fs) o ≡ Ok named → translate (anywhere env) o ≡ Ok named
  named_anywhere fs o named e =
      let made : List (Immediate ℕ Signature) → Result NamedOperation ParseError = λ is. Ok (operation o.opcode is) in
      let is = bind_ok (translate_immediates (naming env fs) o.immediates) made named e in
      let blocks = all_of (λ (b : BlockType). (s : Signature) → (naming env fs).block b ≡ Ok s → (let r : Result Signature ParseError = Ok s in r) ≡ (anywhere env).block b) (λ b s e. sym e) (block_types o.immediates) in
      let stays = translate_leads (naming env fs) same (anywhere env) o.immediates (lead_all (naming env fs) same (anywhere env) (leads fs) o.immediates blocks) is.0 is.1 in
      ap (λ r. r >>= made) (sym stays ∙ translate_same is.0) ∙ is.2

  have_names : (xs : List Occurrence) → AllByRecursion (λ (x : Marked Occurrence). (fs : List (SequenceFrame Occurrence)) × (named_in env fs x.shown.spelt ≡ Ok x.shown.named)) (map mark xs) → AllByRecursion (HasName env) xs
  have_names [] h = tt
  have_names (x ∷ xs) h = (named_anywhere h.0.0 x.spelt x.named (named_parts env h.0.0 x.spelt x.named h.0.1).translated, have_names xs h.1)

  pub lawful_names : (xs : List Occurrence) (b : Body Occurrence) → Lawful env xs b → AllByRecursion (HasName env) xs
  lawful_names xs b lawful = have_names xs (named_somewhere env xs b lawful)

-- the labels of a table are not looked up
pub labels_stay : (env : Environment) (targets : List ℕ) (default : ℕ) → translate_immediates (anywhere env) (branch_table targets default ∷ []) ≡ Ok (branch_table targets default ∷ [])
labels_stay env targets default =
    let stay : each (anywhere env).label targets ≡ Ok targets = each-ok (anywhere env).label (λ l. refl) targets in
    ap (λ r. (r >>= λ ls. Ok (branch_table ls default)) >>= λ i. Ok (i ∷ [])) stay

-- ---- the operators of a body

unmarked : (xs : List Occurrence) → map (λ (x : Marked Occurrence). x.shown) (map mark xs) ≡ xs
unmarked [] = refl
unmarked (x ∷ xs) = ap (λ ys. x ∷ ys) (unmarked xs)

pub operators_are : (env : Environment) (xs : List Occurrence) (b : Body Occurrence) → Lawful env xs b → operators_of b ≡ xs
operators_are env xs b lawful = ap (map (λ (x : Marked Occurrence). x.shown)) (sym lawful.is_body) ∙ unmarked xs
