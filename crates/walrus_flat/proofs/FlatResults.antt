-- The results of rewriting without a tree.
use Rattle.std.proofs.lemmas.List.{length-drop}
use Rattle.std.proofs.Common.{◌≤◌, ◌+◌, length, drop, arith, ◌≡◌, ◌⊎◌, inl, inr, ℕ, List, [], ◌++◌, Bool, true, false, Option, Some, None, Result, Ok, Err, OnOk, IfOk, IfErr, refl, sym, ap, subst, ◌∙◌}
use Rattle.std.specs.Prelude.{IsErr}
use Rattle.std.specs.Borrow.{Bor}
use Rattle.std.specs.Fn.{Shared}
use Rattle.wasm_operators.proofs.ReadingBytes.{reading_agrees}
use Rattle.wasm_body.specs.declared.error.ParseError.{ParseError}
use Rattle.wasm_body.specs.declared.error.EmitError.TheVariants as emit
use Rattle.wasm_body.specs.declared.error.ParseFailure.{ParseFailure}
use Rattle.wasm_body.specs.SourceTree.{Body}
use Rattle.wasm_body.specs.Naming.{Occurrence, entry_type_id}
use Rattle.wasm_body.specs.Pairs.{Pair}
use Rattle.wasm_body.specs.Parsing.Accepted.{Accepted, FirstFault}
use Rattle.wasm_body.specs.Parsing.Lists.{parsed_after_entry}
use Rattle.wasm_body.proofs.Parsing.ParseResults.{accepted_parsed, fault_parsed, accepted_has_no_fault, one_first_fault}
use Rattle.walrus_parser.specs.Bodies.{ParseInput, setting_with, mapped_by}
use Rattle.walrus_parser.specs.Settings.{BothOrNone, locations_in}
use Rattle.walrus_parser.proofs.AnyLocations.{any_locations}
use Rattle.walrus_body.specs.EmittedInstructions.{LentPairs}
use Rattle.walrus_emit_state.specs.Emission.{Output}
use Rattle.walrus_emit_state.specs.TreeWriting.Drafts.{Drafted}
use Rattle.walrus_rewrite.specs.declared.error.RewriteError.{RewriteError}
use Rattle.walrus_rewrite.specs.declared.error.RewriteError.TheVariants.{Parse, Walk, Emit}
use Rattle.walrus_rewrite.specs.Errors.{IsOutOfMemory}
use Rattle.walrus_rewrite.specs.RawBodies.{EmitInput}
use Rattle.walrus_rewrite.specs.RewrittenBodies.{RefusesRewriting, IsOfWriting}
use Rattle.walrus_flat.specs.Sinks.{joined_outputs, OfWhole}
use Rattle.walrus_flat.proofs.SinkLemmas.{all_taken, of_whole}
use Rattle.walrus_flat.specs.RewrittenFlat.{FinishesTo, EndsAlike, LeavesSink, FinishesBytes, FinishesBoth, Composes, RewritesFlat, RewritesTo}

-- the operators end where the body ends
pub ends_there : (start ops : ℕ) (bytes rest : List ℕ) → ops ≤ length bytes → rest ≡ drop ops bytes → start + length bytes ≡ start + ops + length rest
ends_there start ops bytes rest within e = omega (arith, length-drop ops bytes, ap length e)

-- the result of appending
pub finishes : (m : Result Drafted RewriteError) (p : Drafted) → m ≡ Ok p → (old new : List ℕ) (r : Result (Unit {0}) RewriteError) → OnOk r (new ≡ old ++ p.output.bytes) → IfErr r (λ e. e ≡ Emit emit.Memory) → FinishesBytes m old new r
finishes m p e old new (Ok u) ok err = subst (λ n. FinishesBytes n old new (Ok u)) (sym e) ok
finishes m p e old new (Err f) ok err = subst (λ n. FinishesBytes n old new (Err f)) (sym e) err

pub finishes_both : (m : Result Drafted RewriteError) (p : Drafted) → m ≡ Ok p → (old new : List ℕ) (ps qs : List Pair) (r : Result (Unit {0}) RewriteError) → OnOk r (new ≡ old ++ p.output.bytes) → OnOk r (qs ≡ ps ++ p.output.pairs) →
    IfErr r (λ e. e ≡ Emit emit.Memory) → FinishesBoth m old new ps qs r
finishes_both m p e old new ps qs (Ok u) ok pairs err = subst (λ n. FinishesBoth n old new ps qs (Ok u)) (sym e) (ok, pairs)
finishes_both m p e old new ps qs (Err f) ok pairs err = subst (λ n. FinishesBoth n old new ps qs (Err f)) (sym e) err

pub finishes_not : (m : Result Drafted RewriteError) (f : RewriteError) → m ≡ Err f → (old new : List ℕ) → FinishesBytes m old new (Err f)
finishes_not m f e old new = subst (λ n. FinishesBytes n old new (Err f)) (sym e) refl

pub finishes_not_both : (m : Result Drafted RewriteError) (f : RewriteError) → m ≡ Err f → (old new : List ℕ) (ps qs : List Pair) → FinishesBoth m old new ps qs (Err f)
finishes_not_both m f e old new ps qs = subst (λ n. FinishesBoth n old new ps qs (Err f)) (sym e) refl

module _ {S F : Type 0} (asks : Shared F (Bor ℕ × Unit {0}) ℕ) (i : ParseInput S F) (by : EmitInput) where
  -- the bytes are accepted as a body, with the locations of a mapping
  abbrev pub IsAcceptedSomehow : Type 0
  IsAcceptedSomehow = (mapping : List (ℕ × ℕ)) × (b : Body Occurrence) × Accepted (setting_with i (mapped_by asks i mapping)) i.bytes b

  -- ---- what is appended

  module _ (has_map : Bool) (m : Result Drafted RewriteError) (ok : IfOk m (Composes asks i by has_map)) (old new : List ℕ) where
    pub flat_with_map : {Z : Type 0} → has_map ≡ true → (list left : LentPairs Z) → (r : Result (Unit {0}) RewriteError) → FinishesBoth m old new list.now.items left.now.items r →
        OnOk r (RewritesFlat asks i by old new (Some list) (inr (inl (left, tt))))
    flat_with_map has list left (Err e) h = tt
    flat_with_map has list left (Ok u) h = by_made m ok h
      where
        by_made : (n : Result Drafted RewriteError) → IfOk n (Composes asks i by has_map) → FinishesBoth n old new list.now.items left.now.items (Ok u) → RewritesFlat asks i by old new (Some list) (inr (inl (left, tt)))
        by_made (Err f) k h = absurd h
        by_made (Ok made) k h = record {
          mapping = k.mapping;
          body = k.body;
          accepted = k.accepted;
          is_mapping = k.is_mapping;
          raw = made.output.bytes;
          pairs = k.pairs;
          is_raw_body = k.is_raw_body;
          keeps = k.keeps;
          bytes = h.0;
          appends_pairs = h.1 ∙ ap (λ ps. list.now.items ++ ps) (k.kept_pairs has);
        }

    pub flat_without_map : (Z : Type 0) → (r : Result (Unit {0}) RewriteError) → FinishesBytes m old new r → OnOk r (RewritesFlat asks i by {Z = Z} old new None (inl tt))
    flat_without_map Z (Err e) h = tt
    flat_without_map Z (Ok u) h = by_made m ok h
      where
        by_made : (n : Result Drafted RewriteError) → IfOk n (Composes asks i by has_map) → FinishesBytes n old new (Ok u) → RewritesFlat asks i by {Z = Z} old new None (inl tt)
        by_made (Err f) k h = absurd h
        by_made (Ok made) k h = record {
          mapping = k.mapping;
          body = k.body;
          accepted = k.accepted;
          is_mapping = k.is_mapping;
          raw = made.output.bytes;
          pairs = k.pairs;
          is_raw_body = k.is_raw_body;
          keeps = k.keeps;
          bytes = h;
          appends_pairs = tt;
        }

  -- ---- what was accepted, and what is refused, wherever it goes

  pub accepts_to : (has_map : Bool) (goes : Output → Type 0) (m : Result Drafted RewriteError) → IfOk m (Composes asks i by has_map) → (r : Result (Unit {0}) RewriteError) → FinishesTo goes m r → OnOk r IsAcceptedSomehow
  accepts_to has_map goes m ok (Err e) h = tt
  accepts_to has_map goes (Ok made) ok (Ok u) h = (ok.mapping, ok.body, ok.accepted)
  accepts_to has_map goes (Err f) ok (Ok u) h = absurd h

  pub refused_to : (goes : Output → Type 0) (m : Result Drafted RewriteError) → IfErr m (RefusesRewriting asks i by) → (r : Result (Unit {0}) RewriteError) → FinishesTo goes m r → IfErr r (RefusesRewriting asks i by)
  refused_to goes m err (Ok u) h = tt
  refused_to goes (Ok made) err (Err e) h = subst (RefusesRewriting asks i by) (sym h) (inl refl)
  refused_to goes (Err f) err (Err e) h = subst (RefusesRewriting asks i by) (sym h) err

  -- ---- to a sink

  module _ {T : Type 0} (takes : T → T → Output → Type 0) (a b c : T) (both : (first second : Output) → takes a b first → takes b c second → takes a c (joined_outputs first second)) (has_map : Bool) where
    pub flat_to : (m : Result Drafted RewriteError) → IfOk m (OfWhole takes a b (Composes asks i by has_map)) → (r : Result (Unit {0}) RewriteError) → FinishesTo (takes b c) m r →
        OnOk r ((took : Output) × takes a c took × RewritesTo asks i by has_map took)
    flat_to (Ok made) h (Ok u) end =
        let k = h.holds_of_it in (
          h.whole.output,
          all_taken takes a b c h.whole made both h.is_left end,
          record {
            rewrites = record {
              mapping = k.mapping;
              body = k.body;
              accepted = k.accepted;
              is_mapping = k.is_mapping;
              raw = h.whole.output.bytes;
              pairs = k.pairs;
              is_raw_body = k.is_raw_body;
              keeps = k.keeps;
              bytes = refl;
              appends_pairs = tt;
            };
            wanted_pairs = k.kept_pairs;
            no_pairs = k.no_pairs;
          },
        )
    flat_to (Ok made) h (Err e) end = tt
    flat_to (Err f) h (Ok u) end = absurd end
    flat_to (Err f) h (Err e) end = tt

  -- what a sink took after an error
  module _ {T : Type 0} (takes refuses : T → T → Output → Type 0) (a b c : T) (has_map : Bool) where
    abbrev Leaves : T → RewriteError → Type 0
    Leaves last e = LeavesSink asks i by takes refuses a last has_map e

    pub leaves_to : (goes : Output → Type 0) (m : Result Drafted RewriteError) → IfOk m (OfWhole takes a b (Composes asks i by has_map)) → IfErr m (Leaves b) →
        (r : Result (Unit {0}) RewriteError) → FinishesTo goes m r → EndsAlike refuses b c m r → IfErr r (Leaves c)
    leaves_to goes m ok err (Ok u) h ends = tt
    leaves_to goes (Ok made) ok err (Err e) h ends = subst (Leaves c) (sym h) (inr (record { middle = b; left = made; of_whole = of_whole takes a b made (λ d whole. inl whole) ok; last = inr (refl, ends) }))
    leaves_to goes (Err f) ok err (Err e) h ends = subst (λ last. Leaves last e) (sym ends) (subst (Leaves b) (sym h) err)

  pub accepts_of_sink : (has_map : Bool) (taken : Output → Type 0) (r : Result (Unit {0}) RewriteError) → OnOk r ((took : Output) × taken took × RewritesTo asks i by has_map took) → OnOk r IsAcceptedSomehow
  accepts_of_sink has_map taken (Ok u) h = (h.2.rewrites.mapping, h.2.rewrites.body, h.2.rewrites.accepted)
  accepts_of_sink has_map taken (Err e) h = tt

  -- a body that is accepted with one location function has no first fault with another
  no_fault : (l m : Option (ℕ → ℕ)) (b : Body Occurrence) (f : ParseFailure) → BothOrNone l m → Accepted (setting_with i m) i.bytes b → FirstFault (setting_with i l) i.bytes f → ⊥
  no_fault l m b f both a fault = by_entry (entry_type_id i.environment) (fault_parsed (setting_with i l) reading_agrees i.bytes f fault) (accepted_parsed (setting_with i m) reading_agrees i.bytes b a)
    where
      by_entry : (r : Result ℕ ParseError) → parsed_after_entry (setting_with i l) r i.bytes ≡ Err f → parsed_after_entry (setting_with i m) r i.bytes ≡ Ok b → ⊥
      by_entry (Err e) is was = cc
      by_entry (Ok id) is was = let other = any_locations i.environment i.start i.check i.first l m both i.bytes f is in let both_are = sym other ∙ was in cc

  both_given : (o : Option (Bor F)) (l m : Option (ℕ → ℕ)) → BothOrNone o l → BothOrNone o m → BothOrNone l m
  both_given None None None p q = tt
  both_given (Some f) (Some l) (Some m) p q = tt
  both_given None (Some l) m p q = absurd p
  both_given None None (Some m) p q = absurd q
  both_given (Some f) None m p q = absurd p
  both_given (Some f) (Some l) None p q = absurd q

  -- an accepted body isn't refused by the first pass
  pub each_body : (l : Option (ℕ → ℕ)) (b : Body Occurrence) → BothOrNone i.on_instr_pos l → Accepted (setting_with i l) i.bytes b → (r : Result (Unit {0}) RewriteError) → IfErr r (RefusesRewriting asks i by) → IfErr r IsOfWriting
  each_body l b both a (Ok u) h = tt
  each_body l b both a (Err (Parse f)) (inl memory) = memory
  each_body l b both a (Err (Parse f)) (inr h) = absurd (accepted_has_no_fault reading_agrees S (setting_with i l) i.bytes b f a (h l both))
  each_body l b both a (Err (Walk w)) h = tt
  each_body l b both a (Err (Emit e)) h = tt

  -- and each first fault is returned
  pub each_fault : (l : Option (ℕ → ℕ)) (f : ParseFailure) → BothOrNone i.on_instr_pos l → FirstFault (setting_with i l) i.bytes f → (r : Result (Unit {0}) RewriteError) → OnOk r IsAcceptedSomehow → IfErr r (RefusesRewriting asks i by) →
      IsErr r × IfErr r (λ e. IsOutOfMemory e ⊎ (e ≡ Parse f))
  each_fault l f both fault (Ok u) ok err = absurd (no_fault l (mapped_by asks i ok.0) ok.1 f (both_given i.on_instr_pos l (mapped_by asks i ok.0) both (given_both i.on_instr_pos)) ok.2 fault)
    where
      given_both : (o : Option (Bor F)) → BothOrNone o (locations_in o i.offset ok.0)
      given_both None = tt
      given_both (Some g) = tt
  each_fault l f both fault (Err (Parse p)) ok (inl memory) = (refl, inl memory)
  each_fault l f both fault (Err (Parse p)) ok (inr h) = (refl, inr (ap Parse (one_first_fault reading_agrees S (setting_with i l) i.bytes p f (h l both) fault)))
  each_fault l f both fault (Err (Walk w)) ok memory = (refl, inl memory)
  each_fault l f both fault (Err (Emit e)) ok (inl memory) = (refl, inl memory)
  each_fault l f both fault (Err (Emit e)) ok (inr h) = absurd (no_fault l h.1.locations h.0 f (both_given i.on_instr_pos l h.1.locations both h.1.are_given) h.1.accepted fault)
