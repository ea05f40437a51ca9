-- Both ways of rewriting append the same.
use Rattle.std.proofs.Common.{◌≡◌, ℕ, List, ◌++◌, length, Result, Ok, sym, ap, subst, ◌∙◌}
use Rattle.std.specs.Borrow.{Bor}
use Rattle.std.specs.Fn.{Shared}
use Rattle.wasm_operators.proofs.ReadingBytes.{reading_agrees}
use Rattle.wasm_encode.specs.Declarations as encoded
use Rattle.wasm_body.specs.declared.error.EmitError.{EmitError}
use Rattle.wasm_body.specs.SourceTree.{Body}
use Rattle.wasm_body.specs.Naming.{Occurrence}
use Rattle.wasm_body.specs.NormalForm.{body_tree}
use Rattle.wasm_body.specs.FunctionTree.{FunctionTree}
use Rattle.wasm_body.specs.Bytes.{tree_bytes}
use Rattle.wasm_body.specs.LocalNumbers.{Local, declared, ids_of, uses_local, numbering_locals}
use Rattle.wasm_body.specs.Pairs.{Pair, tree_pairs}
use Rattle.wasm_body.specs.Parsing.Accepted.{Accepted}
use Rattle.wasm_body.proofs.LocalNumbers.{one_declared}
use Rattle.wasm_body.proofs.Parsing.ParseResults.{one_body_accepted}
use Rattle.walrus_parser.specs.Bodies.{setting_with, mapped_by}
use Rattle.walrus_rewrite.specs.RawBodies.{EmitInput, IsRawBody, AppendsPairs}
use Rattle.walrus_flat.specs.RewrittenFlat.{BothAppendAlike}

same_value : {A : Type 0} (x y : A) → (let r : Result A EmitError = Ok x in r) ≡ Ok y → x ≡ y
same_value x y e = cc

-- a tree has one raw body
module _ (by : EmitInput) (t : FunctionTree) (b c : List ℕ) (ps qs : List Pair) (h : IsRawBody by t b ps) (k : IsRawBody by t c qs) where
  others : h.others ≡ k.others
  others = one_declared by.types by.args (uses_local t) h.others k.others h.are_declared k.are_declared

  declarations : h.declarations ≡ k.declarations
  declarations = same_value h.declarations k.declarations (sym h.declarations_are ∙ (ap (declared by.to (length by.args)) others ∙ k.declarations_are))

  operators : h.operators ≡ k.operators
  operators = same_value h.operators k.operators (sym h.operators_are ∙ (ap (λ (o : List Local). tree_bytes (numbering_locals by.to by.args (ids_of o)) t) others ∙ k.operators_are))

  pub one_raw_body : b ≡ c
  one_raw_body = h.bytes_are ∙ ((λ n. encoded.declaration_bytes (declarations n) ++ operators n) ∙ sym k.bytes_are)

  pub one_list_of_pairs : ps ≡ qs
  one_list_of_pairs =
      same_value ps qs
      (sym h.pairs_are
      ∙ ((λ n. tree_pairs (numbering_locals by.to by.args (ids_of (others n))) t (length (encoded.declaration_bytes (declarations n)))) ∙ k.pairs_are))

pub both_append_alike : (S F Z : Type 0) (asks : Shared F (Bor ℕ × Unit {0}) ℕ) → BothAppendAlike S F Z asks
both_append_alike S F Z asks i by made mapping old one other entry exit flat_entry flat_exit h flat same =
    let there : Accepted (setting_with i (mapped_by asks i flat.mapping)) i.bytes h.accepts.body = subst (λ l. Accepted (setting_with i l) i.bytes h.accepts.body) same h.accepts.accepted in
    let body : h.accepts.body ≡ flat.body = one_body_accepted reading_agrees S (setting_with i (mapped_by asks i flat.mapping)) i.bytes h.accepts.body flat.body there flat.accepted in
    let raw = subst (λ (b : Body Occurrence). IsRawBody by (body_tree i.environment b) h.raw h.pairs) body h.is_raw_body in
    let bytes = one_raw_body by (body_tree i.environment flat.body) flat.raw h.raw flat.pairs h.pairs flat.is_raw_body raw in
    let pairs = one_list_of_pairs by (body_tree i.environment flat.body) flat.raw h.raw flat.pairs h.pairs flat.is_raw_body raw in
    record {
      raw = h.raw;
      pairs = h.pairs;
      is_one = h.bytes;
      is_other = flat.bytes ∙ ap (λ bs. old ++ bs) bytes;
      appends_pairs = h.appends_pairs;
      appends_flat_pairs = subst (λ ps. AppendsPairs ps flat_entry flat_exit) pairs flat.appends_pairs;
    }
