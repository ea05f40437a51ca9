-- What is written operator by operator is the text of the normal form: with names, and with numbers.
use Rattle.std.proofs.Common.{◌≡◌, List, map, Bool, Ok, refl, sym, ap, ◌∙◌}
use Rattle.walrus_ir.specs.declared.val_type.InstrSeqType.{InstrSeqType}
use Rattle.wasm_numbers.specs.Results.{◌>>=◌, gather}
use Rattle.wasm_body.specs.Control.{Control, Does, Opens, Else, Catch, CatchAll, End, Delegate, Marked}
use Rattle.wasm_body.specs.SourceTree.{body_text}
use Rattle.wasm_body.specs.Translation.{translate, at_location}
use Rattle.wasm_body.specs.Naming.{NamedOperation}
use Rattle.wasm_body.specs.NormalForm.{Typing, balances, construct_type}
use Rattle.wasm_body.specs.FlatText.{then_by}
use Rattle.wasm_body.specs.RewrittenTree.{rewritten_body_by}
use Rattle.wasm_body.specs.Bytes.{Numbers, in_32_bits, numbers_in_32_bits, numbered_block, numbering, writing_numbers}
use Rattle.wasm_body.specs.TextLaws.{mark_named}
use Rattle.wasm_body.proofs.NormalForm.Exponents.{exponent_of-pow}
use Rattle.wasm_body.proofs.NormalForm.NamedTexts.{source_controls}
use Rattle.wasm_body.proofs.NormalForm.WrittenTexts.{named_by, type_at, written_result, tree_text_by}
use Rattle.wasm_body.specs.Flat.{Named, first_state, flat, renumbering, sequence_type, numbered_at_location}
use Rattle.wasm_body.specs.FlatLaws.{FlatIsText, FlatIsNumbered}
use Rattle.wasm_body.proofs.Flat.Texts.{written_body}

pub flat_is_text : FlatIsText
flat_is_text m xs b hx =
    let balanced : NamedOperation → Bool = λ o. balances m (construct_type m o) in
    ap (λ l. map (λ (x : Marked Named). x.shown) (flat balanced first_state l)) hx ∙ ap (map (λ (x : Marked Named). x.shown)) (written_body balanced b)

-- ---- with numbers

module _ (to : Numbers) (m : Typing) where
  -- the tree has an alignment as a number of bytes; its exponent is the one that was read
  named_is : (t : InstrSeqType) → named_by (then_by (numbering to)) t ≡ renumbering to t
  named_is t = λ i. record {
    index = (numbers_in_32_bits to).number_of;
    local = (numbers_in_32_bits to).local_number;
    label = in_32_bits;
    handler = in_32_bits;
    outer = in_32_bits;
    number = in_32_bits;
    block = λ s. numbered_block to t;
    alignment = λ e. exponent_of-pow e i;
    count = λ n. in_32_bits n >>= λ _. Ok tt;
  }

  type_is : (c : Control) (o : NamedOperation) → type_at m c o ≡ sequence_type m c o
  type_is (Does action) o = refl
  type_is (Opens construct) o = refl
  type_is Else o = refl
  type_is (Catch tag) o = refl
  type_is CatchAll o = refl
  type_is End o = refl
  type_is (Delegate n) o = refl

  answer_is : (x : Marked Named) → written_result (then_by (numbering to)) m x ≡ numbered_at_location to m x
  answer_is x =
      ap (λ t. translate (named_by (then_by (numbering to)) t) x.shown.op >>= λ o. Ok (at_location o x.shown.location)) (type_is x.control x.shown.op)
      ∙ ap (λ w. translate w x.shown.op >>= λ o. Ok (at_location o x.shown.location)) (named_is (sequence_type m x.control x.shown.op))

  answers_are : (xs : List (Marked Named)) → gather (map (written_result (then_by (numbering to)) m) xs) ≡ gather (map (numbered_at_location to m) xs)
  answers_are xs = λ i. gather (map (λ x. answer_is x i) xs)

pub flat_is_numbered : FlatIsNumbered
flat_is_numbered m xs b hx h to =
    let balanced : NamedOperation → Bool = λ o. to.balanced (construct_type m o) in
    let is : flat balanced first_state (map mark_named xs) ≡ body_text (rewritten_body_by balanced b) = ap (flat balanced first_state) hx ∙ written_body balanced b in
    tree_text_by (writing_numbers to) m b (source_controls m xs b hx h)
    ∙ (ap (λ l. gather (map (written_result (then_by (numbering to)) m) l)) (sym is) ∙ answers_are to m (flat balanced first_state (map mark_named xs)))
