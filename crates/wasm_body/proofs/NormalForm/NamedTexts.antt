-- The text of a normal form with names is the text of a source tree, the rewritten one.
use Rattle.std.proofs.Common.{◌≡◌, List, [], ◌∷◌, map, Ok, refl, sym, ap, ◌∙◌, subst}
use Rattle.walrus_ir.specs.declared.val_type.InstrSeqType.{InstrSeqType}
use Rattle.wasm_numbers.specs.Results.{◌>>=◌, gather}
use Rattle.wasm_body.specs.Control.{role_of, Control, Does, Opens, Else, Catch, CatchAll, End, Delegate, Marked, with_control}
use Rattle.wasm_body.specs.SourceTree.{Sequence, Body, body_text}
use Rattle.wasm_body.specs.Translation.{translate, at_location}
use Rattle.wasm_body.specs.Naming.{NamedOperation, block_types}
use Rattle.wasm_body.specs.NormalForm.{Typing, balances, construct_type, normal_form}
use Rattle.wasm_body.specs.FlatText.{with_names}
use Rattle.wasm_body.specs.Typed.{HasSignatures, IsTypedAs, AreTyped}
use Rattle.wasm_body.specs.TextLaws.{IsNamedBody, IsTextOf, HaveTexts, mark_named}
use Rattle.wasm_body.proofs.NormalForm.Kept.{kept_written}
use Rattle.wasm_body.proofs.Translation.Steps.{after_one, after_two}
use Rattle.wasm_body.proofs.Structure.Along.{Each, AllMarked, HasControl, weaker, along, all_of_each, is_body}
use Rattle.wasm_body.specs.RewrittenTree.{end_at, rewritten_body, rewritten_text}
use Rattle.wasm_body.proofs.NormalForm.Rewritten.{Named, IsTypedBy, typed_control, Sourced, each_rewritten}
use Rattle.wasm_body.proofs.NormalForm.WrittenTexts.{type_at, written_result, named_by, named_written, tree_text_by}

-- the type that an operator is written with has its block type as signature
pub signatures_at : (m : Typing) (c : Control) (o : NamedOperation) → IsTypedBy m c o → HasSignatures m (type_at m c o) (block_types o.immediates)
signatures_at m (Opens construct) o h = h
signatures_at m (Does action) o h = subst (λ bs. HasSignatures m (type_at m (Does action) o) bs) (sym h) tt
signatures_at m Else o h = subst (λ bs. HasSignatures m (type_at m Else o) bs) (sym h) tt
signatures_at m (Catch t) o h = subst (λ bs. HasSignatures m (type_at m (Catch t) o) bs) (sym h) tt
signatures_at m CatchAll o h = subst (λ bs. HasSignatures m (type_at m CatchAll o) bs) (sym h) tt
signatures_at m End o h = subst (λ bs. HasSignatures m (type_at m End o) bs) (sym h) tt
signatures_at m (Delegate n) o h = subst (λ bs. HasSignatures m (type_at m (Delegate n) o) bs) (sym h) tt

module _ (m : Typing) where
  abbrev HasControlAndTypes : Named → Control → Type 0
  HasControlAndTypes a c = HasControl a c × HasSignatures m (type_at m c a.op) (block_types a.op.immediates)

  control_and_types : (a : Named) (c : Control) → Sourced m a c → HasControlAndTypes a c
  control_and_types a c h = (h.0, signatures_at m c a.op (typed_control m a c h))

  -- an operator is written with names as itself
  written_as_itself : (a : Named) (t : InstrSeqType) → HasSignatures m t (block_types a.op.immediates) → (translate (named_by (with_names m).translation t) a.op >>= λ x. Ok (at_location x a.location)) ≡ Ok a
  written_as_itself a t h = after_one (translate (named_by (with_names m).translation t) a.op) (Ok a.op) (λ x. Ok (at_location x a.location)) (sym (named_written (with_names m).translation t a.op) ∙ kept_written m t a.op h)

  all_written_as_themselves : (xs : List (Marked Named)) → AllMarked HasControlAndTypes xs → gather (map (written_result (with_names m).translation m) xs) ≡ Ok (map (λ x. x.shown) xs)
  all_written_as_themselves [] h = refl
  all_written_as_themselves (x ∷ xs) h =
      after_two (written_result (with_names m).translation m x) (Ok x.shown) (gather (map (written_result (with_names m).translation m) xs)) (Ok (map (λ (y : Marked Named). y.shown) xs)) (λ y ys. Ok (y ∷ ys))
      (written_as_itself x.shown (type_at m x.control x.shown.op) h.0.1) (all_written_as_themselves xs h.1)

module _ (m : Typing) (xs : List Named) (b : Body Named) (hx : IsNamedBody xs b) (h : AreTyped m xs) where
  sourced : Each (Sourced m) b.sequence
  sourced = along (λ x. IsTypedAs m (role_of x.op.opcode) x.op) xs b hx h

  pub source_controls : Each HasControl b.sequence
  source_controls = weaker (Sourced m) HasControl (λ a c g. g.0) b.sequence sourced

  abbrev written_anew : Sequence Named
  written_anew = (rewritten_body m b).sequence

  rewritten_controls : Each (HasControlAndTypes m) written_anew
  rewritten_controls =
      each_rewritten (λ o. balances m (construct_type m o)) (Sourced m) (HasControlAndTypes m) (λ a action g. control_and_types m a (Does action) g) (λ a construct g. control_and_types m a (Opens construct) g)
      (λ l. (refl, tt)) (λ l. (refl, tt)) (λ a t l g. (refl, tt)) (λ l. (refl, tt)) (λ e n l g. (refl, tt)) b.sequence sourced

  pub has_text : IsTextOf m (normal_form m b) (rewritten_text m b)
  has_text =
      tree_text_by (with_names m) m b source_controls
      ∙ all_written_as_themselves m (body_text (rewritten_body m b)) (all_of_each (HasControlAndTypes m) written_anew (with_control (end_at b.close.location) End ∷ []) rewritten_controls ((refl, tt), tt))

  pub text_body : IsNamedBody (rewritten_text m b) (rewritten_body m b)
  text_body = is_body (rewritten_body m b) (weaker (HasControlAndTypes m) HasControl (λ a c g. g.0) written_anew rewritten_controls) refl

  -- the text of the normal form is the rewritten body
  pub text_is_body : (ys : List Named) → IsTextOf m (normal_form m b) ys → IsNamedBody ys (rewritten_body m b)
  text_is_body ys hy =
      let same : Ok (rewritten_text m b) ≡ Ok ys = sym has_text ∙ hy in
      let e : rewritten_text m b ≡ ys = cc in ap (map mark_named) (sym e) ∙ text_body

pub have_texts : HaveTexts
have_texts m xs b hx h = record { text = rewritten_text m b; body = rewritten_body m b; is_text = has_text m xs b hx h; is_body = text_body m xs b hx h }
