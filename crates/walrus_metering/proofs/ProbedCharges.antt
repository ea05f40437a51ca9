-- A body whose charges are probes is the source with probes, so it is valid where the source is.
use Rattle.std.proofs.Common.{◌≡◌, ℕ, zero, suc, List, [], ◌∷◌, ◌++◌, map, Bool, true, false, refl, sym, ap, ◌∙◌, append_assoc, subst}
use Rattle.wasm_body.specs.Control.{Plain, Else, End, Delegate, Marked, with_control}
use Rattle.wasm_body.specs.Flat.{Named}
use Rattle.wasm_body.specs.SourceTree.{Sequence, Empty, Single, Wrapped, IfThen, IfElse, TryCatch, TryDelegate, Clauses, Ended, Catches, CatchesAll, text, clauses_text, Body, body_text, map_sequence, map_clauses}
use Rattle.wasm_body.specs.Validity.{OperandRules}
use Rattle.wasm_insertion.specs.Insertion.{Origin, Own, Added, without_origin, goes_straight, piece_cost, with_charge, metered, metered_clauses}
use Rattle.wasm_insertion.specs.InsertedValidity.{IsProbe, Probed, done, same, probe}
use Rattle.walrus_insertion.specs.BegunBodies.{with_added}
use Rattle.walrus_metering.specs.declared.costs.Costs.{Costs}
use Rattle.walrus_metering.specs.declared.charge.Charge.{Charge}
use Rattle.walrus_metering.specs.MeteredTrees.{prepared, prepared_clauses, charge_shown, charging_operator, prepared_for, operators_for, named_cost, charged_body}
use Rattle.walrus_metering.specs.MeteredTexts.{ChargesAreProbes}

abbrev HasFirst : List Named → Type 0
HasFirst [] = ⊥
HasFirst (x ∷ xs) = Unit {0}

abbrev names : List (Marked Named) → List Named
names xs = map (λ x. x.shown) xs

begins : (s : Sequence Named) (k : List (Marked Named)) → HasFirst (names k) → HasFirst (names (text s k))
begins Empty k h = h
begins (Single a action r) k h = tt
begins (Wrapped a w b e r) k h = tt
begins (IfThen a b e r) k h = tt
begins (IfElse a b l c e r) k h = tt
begins (TryCatch a b cs r) k h = tt
begins (TryDelegate a b e n r) k h = tt

clauses_begin : (cs : Clauses Named) (k : List (Marked Named)) → HasFirst (names (clauses_text cs k))
clauses_begin (Ended e) k = tt
clauses_begin (Catches a t b cs) k = tt
clauses_begin (CatchesAll a b e) k = tt

module _ {T : Type 0} (rules : OperandRules T) (costs : Costs) (charge : Charge) (probes : ChargesAreProbes rules charge) where
  abbrev O : Type 0
  O = Origin Named Named

  abbrev own_names : List (Marked O) → List Named
  own_names xs = map (λ x. without_origin x.shown) xs

  abbrev cost : Named → ℕ
  cost = named_cost costs

  abbrev shown : Sequence (Origin (Origin Named ℕ) Named) → Sequence O
  shown t = map_sequence (charge_shown (charging_operator charge)) t

  abbrev with_all : Sequence (Origin Named ℕ) → Sequence O
  with_all t = shown (prepared (prepared_for charge) t)

  abbrev clauses_with_all : Clauses (Origin Named ℕ) → Clauses O
  clauses_with_all cs = map_clauses (charge_shown (charging_operator charge)) (prepared_clauses (prepared_for charge) cs)

  abbrev whole : Bool → Sequence Named → Sequence O
  whole straight s = with_all (with_charge straight (piece_cost cost s) (metered cost s))

  probe_before : (ps xs ys : List Named) → HasFirst xs → IsProbe rules ps → Probed rules xs ys → Probed rules xs (ps ++ ys)
  probe_before ps [] ys h p f = absurd h
  probe_before ps (x ∷ xs) ys h p f = probe p f

  added_names : (ps : List Named) (t : Sequence (Origin (Origin Named ℕ) Named)) (k : List (Marked O))
      → own_names (text (shown (with_added ps t)) k) ≡ ps ++ own_names (text (shown t) k)
  added_names [] t k = refl
  added_names (p ∷ ps) t k = ap (λ l. p ∷ l) (added_names ps t k)

  charge_names : (n : ℕ) (t : Sequence (Origin Named ℕ)) (k : List (Marked O))
      → own_names (text (with_all (Single (Added n) Plain t)) k) ≡ operators_for charge n ++ own_names (text (with_all t) k)
  charge_names n t k =
      added_names (prepared_for charge n) (Single (Own (Added n)) Plain (prepared (prepared_for charge) t)) k
      ∙ sym (append_assoc (prepared_for charge n) (charging_operator charge ∷ []) (own_names (text (with_all t) k)))

  charge_probed : (straight : Bool) (n : ℕ) (t : Sequence (Origin Named ℕ)) (k : List (Marked O)) (xs : List Named) → HasFirst xs
      → Probed rules xs (own_names (text (with_all t) k)) → Probed rules xs (own_names (text (with_all (with_charge straight n t)) k))
  charge_probed true n t k xs h f = f
  charge_probed false zero t k xs h f = f
  charge_probed false (suc n) t k xs h f =
      subst (Probed rules xs) (sym (charge_names (suc n) t k))
      (probe_before (operators_for charge (suc n)) xs (own_names (text (with_all t) k)) h (probes (suc n)) f)

  abbrev IsProbedAs : List (Marked Named) → List (Marked O) → Type 0
  IsProbedAs k k' = Probed rules (names k) (own_names k')

  whole_probed : (straight : Bool) (s : Sequence Named) (k : List (Marked Named)) (k' : List (Marked O)) → HasFirst (names k)
      → IsProbedAs (text s k) (text (with_all (metered cost s)) k') → IsProbedAs (text s k) (text (whole straight s) k')
  whole_probed straight s k k' h f = charge_probed straight (piece_cost cost s) (metered cost s) k' (names (text s k)) (begins s k h) f

  mutual
    probed : (s : Sequence Named) (k : List (Marked Named)) (k' : List (Marked O)) → HasFirst (names k) → IsProbedAs k k'
        → IsProbedAs (text s k) (text (with_all (metered cost s)) k')
    probed Empty k k' h f = f
    probed (Single a action r) k k' h f = same (whole_probed (goes_straight action) r k k' h (probed r k k' h f))
    probed (Wrapped a w b e r) k k' h f =
        let after : IsProbedAs (with_control e End ∷ text r k) (with_control (Own e) End ∷ text (whole false r) k') =
        same (whole_probed false r k k' h (probed r k k' h f)) in
        same (whole_probed false b _ _ tt (probed b (with_control e End ∷ text r k) (with_control (Own e) End ∷ text (whole false r) k') tt after))
    probed (IfThen a b e r) k k' h f =
        let after : IsProbedAs (with_control e End ∷ text r k) (with_control (Own e) End ∷ text (whole false r) k') =
        same (whole_probed false r k k' h (probed r k k' h f)) in
        same (whole_probed false b _ _ tt (probed b (with_control e End ∷ text r k) (with_control (Own e) End ∷ text (whole false r) k') tt after))
    probed (IfElse a b l c e r) k k' h f =
        let after : IsProbedAs (with_control e End ∷ text r k) (with_control (Own e) End ∷ text (whole false r) k') =
        same (whole_probed false r k k' h (probed r k k' h f)) in
        let other : IsProbedAs (with_control l Else ∷ text c (with_control e End ∷ text r k))
        (with_control (Own l) Else ∷ text (whole false c) (with_control (Own e) End ∷ text (whole false r) k')) =
        same (whole_probed false c _ _ tt (probed c (with_control e End ∷ text r k) (with_control (Own e) End ∷ text (whole false r) k') tt after)) in
        same (whole_probed false b _ _ tt (probed b (with_control l Else ∷ text c (with_control e End ∷ text r k))
        (with_control (Own l) Else ∷ text (whole false c) (with_control (Own e) End ∷ text (whole false r) k')) tt other))
    probed (TryCatch a b cs r) k k' h f =
        let after = whole_probed false r k k' h (probed r k k' h f) in
        let handlers = clauses_probed cs (text r k) (text (whole false r) k') after in
        let first = clauses_begin cs (text r k) in
        same (whole_probed false b _ _ first
        (probed b (clauses_text cs (text r k)) (clauses_text (clauses_with_all (metered_clauses cost cs)) (text (whole false r) k')) first handlers))
    probed (TryDelegate a b e n r) k k' h f =
        let after : IsProbedAs (with_control e (Delegate n) ∷ text r k) (with_control (Own e) (Delegate n) ∷ text (whole false r) k') =
        same (whole_probed false r k k' h (probed r k k' h f)) in
        same (whole_probed false b _ _ tt
        (probed b (with_control e (Delegate n) ∷ text r k) (with_control (Own e) (Delegate n) ∷ text (whole false r) k') tt after))

    clauses_probed : (cs : Clauses Named) (k : List (Marked Named)) (k' : List (Marked O)) → IsProbedAs k k'
        → IsProbedAs (clauses_text cs k) (clauses_text (clauses_with_all (metered_clauses cost cs)) k')
    clauses_probed (Ended e) k k' f = same f
    clauses_probed (Catches a t b cs) k k' f =
        let handlers = clauses_probed cs k k' f in
        let first = clauses_begin cs k in
        same (whole_probed false b _ _ first
        (probed b (clauses_text cs k) (clauses_text (clauses_with_all (metered_clauses cost cs)) k') first handlers))
    clauses_probed (CatchesAll a b e) k k' f =
        same (whole_probed false b _ _ tt (probed b (with_control e End ∷ k) (with_control (Own e) End ∷ k') tt (same f)))

  pub body_probed : (b : Body Named) → IsProbedAs (body_text b) (body_text (charged_body costs charge b))
  body_probed b =
      whole_probed false b.sequence _ _ tt (probed b.sequence (with_control b.close End ∷ []) (with_control (Own b.close) End ∷ []) tt (same done))
