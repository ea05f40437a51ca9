-- A body that was checked and written is the raw body of the accepted one; and why there is none.
use Rattle.std.proofs.Common.{◌≡◌, inl, inr, ℕ, ◌+◌, List, [], ◌∷◌, ◌++◌, length, map, Bool, Option, Some, None, Ok, Err, refl, sym, ap, subst, ◌∙◌, arith}
use Rattle.std.specs.Prelude.{IsOk}
use Rattle.std.specs.Borrow.{Bor}
use Rattle.std.specs.Fn.{Shared}
use Rattle.std.specs.List.{AllByRecursion}
use Rattle.walrus_ir.specs.Unfolding.{among}
use Rattle.wasm_operators.specs.Laws.{AreBytes}
use Rattle.wasm_operators.specs.OperatorList.{Placed, Lists}
use Rattle.wasm_operators.proofs.ReadingBytes.{reading_agrees}
use Rattle.wasm_encode.specs.Declarations as encoded
use Rattle.wasm_body.specs.declared.error.EmitError.{EmitError}
use Rattle.wasm_body.specs.declared.error.ParseFailure.{ParseFailure}
use Rattle.wasm_body.specs.SourceTree.{Body}
use Rattle.wasm_body.specs.Naming.{Occurrence, entry_type_id}
use Rattle.wasm_body.specs.NormalForm.{typing_of, body_tree}
use Rattle.wasm_body.specs.Bytes.{Numbers, bytes_of}
use Rattle.wasm_body.specs.Pairs.{pairs_from}
use Rattle.wasm_body.specs.LocalNumbers.{AreDeclared, ids_of, uses_local, numbering_locals}
use Rattle.wasm_body.specs.LocationLaws.{BalanceAlike}
use Rattle.wasm_body.specs.EmissionFaults.{AreIdNumbers}
use Rattle.wasm_body.specs.Parsing.Accepted.{HasSpelling, placed, validated, Accepted}
use Rattle.wasm_body.specs.Parsing.Progress.{nothing_read, progress_after}
use Rattle.wasm_body.proofs.Bytes.LawfulTyped.{lawful_named}
use Rattle.wasm_body.proofs.Structure.ReadingTrees.{body_read}
use Rattle.wasm_body.proofs.Parsing.ParseResults.{is_ok, one_body_accepted}
use Rattle.walrus_parser.specs.Bodies.{ParseInput, setting_with, mapped_by, RefusesBody}
use Rattle.walrus_parser.specs.Settings.{BothOrNone, operators_of, IsMapping}
use Rattle.walrus_parser.proofs.Mappings.{mapped_both}
use Rattle.walrus_emit_state.specs.TreeWriting.Drafts.{Drafted}
use Rattle.walrus_body.proofs.EmittedFaults.{listed_spelt}
use Rattle.walrus_rewrite.specs.RawBodies.{EmitInput, input_for, IsRawBody, BeginsRawBody, IsNotBegun, HasNoRawBody, undeclared}
use Rattle.walrus_rewrite.specs.RewrittenBodies.{IsAcceptedAs, RefusesRewriting}
use Rattle.walrus_rewrite.specs.declared.error.RewriteError.TheVariants.{Emit}
use Rattle.walrus_ir.specs.declared.module.Module.{Module}
use Rattle.walrus_maps.specs.declared.ids_to_indices.IdsToIndices.{IdsToIndices}
use Rattle.walrus_numbering.specs.EmittedLocals.{HasNoDeclarations}
use Rattle.walrus_numbering.specs.NumberMaps.{numbers_by}
use Rattle.walrus_rewrite.proofs.ParsedBodies.{are_id_numbers, no_parsed_body}
use Rattle.walrus_rewrite.proofs.RawBodyLemmas.{same_numbers}
use Rattle.wasm_body.specs.Flat.{first_unreachability, locals_read}
use Rattle.walrus_flat.specs.Checked.{marks}
use Rattle.walrus_flat.specs.CheckedBody.{HasLimit, AcceptsUsing, ChecksAll}
use Rattle.walrus_flat.specs.Laws.{written_of, reads_local}
use Rattle.walrus_flat.specs.WrittenBody.{some_locations, IsAcceptedBody, WritesBody, WritesFront, WritesFirst, RefusesWriting}
use Rattle.walrus_flat.specs.RewrittenFlat.{read_again, begun_draft, is_none, Composes, ComposesFront, WritesAll, WritesPart, IsNotAllWritten, out_of_memory, not_begun as all_not_begun, not_written as all_not_written}
use Rattle.walrus_flat.proofs.Accepting.{accepted_of}
use Rattle.walrus_flat.proofs.CheckedWhole.{read_operators}
use Rattle.walrus_flat.proofs.Drafts.{drafted_bytes, drafted_pairs, drafted_no_pairs}
use Rattle.walrus_flat.proofs.RawBodies.{used_are, has_raw_body, has_no_body}

-- a validator that accepts everything
all_accepted : (xs : List Placed) → IsOk (validated {V = Unit {0}} (λ v x. Ok tt) tt xs)
all_accepted [] = refl
all_accepted (x ∷ xs) = all_accepted xs

limited : {F : Type 0} (o : Option F) (l : Option (ℕ → ℕ)) → BothOrNone o l → HasLimit (is_none o) l
limited None None both = tt
limited (Some f) (Some l) both = tt
limited None (Some l) both = absurd both
limited (Some f) None both = absurd both

pub both_some : {F : Type 0} (o : Option F) → BothOrNone o (some_locations o)
both_some None = tt
both_some (Some f) = tt

from_no_place : (n : ℕ) → 0 + n ≡ n
from_no_place n = omega arith

module _ {S F : Type 0} (asks : Shared F (Bor ℕ × Unit {0}) ℕ) (i : ParseInput S F) where
  abbrev Given : Option (ℕ → ℕ) → (ℕ → Bool) → Type 0
  Given l used = AcceptsUsing (setting_with i l) i.bytes used

  -- what the first pass refuses
  pub refuses_body : (used : ℕ → Bool) (f : ParseFailure) → ChecksAll (setting_with i) (is_none i.on_instr_pos) i.bytes used (Err f) → RefusesBody asks i f
  refuses_body used f (inl memory) = inl memory
  refuses_body used f (inr h) = inr (λ locations both. h locations (limited i.on_instr_pos locations both))

  -- what it accepts is accepted when it is read again
  pub accepted_again : (l : Option (ℕ → ℕ)) (b : Body Occurrence) → Accepted (setting_with i l) i.bytes b → Accepted (setting_with (read_again i) l) i.bytes b
  accepted_again l b a = record {
    operators = a.operators;
    all = record { spelt = a.all.spelt; have_locations = a.all.have_locations; located = a.all.located; passes = all_accepted (map placed a.operators) };
    lawful = a.lawful;
  }

  module _ (used : ℕ → Bool) (checks : ChecksAll (setting_with i) (is_none i.on_instr_pos) i.bytes used (Ok tt)) where
    abbrev with_some : AcceptsUsing (setting_with i (some_locations i.on_instr_pos)) i.bytes used
    with_some = checks (some_locations i.on_instr_pos) (limited i.on_instr_pos (some_locations i.on_instr_pos) (both_some i.on_instr_pos))

    pub is_accepted : IsAcceptedBody (read_again i)
    is_accepted = record { body = with_some.body; accepted = accepted_again (some_locations i.on_instr_pos) with_some.body with_some.accepted }

    module _ (l : Option (ℕ → ℕ)) (a : AcceptsUsing (setting_with i l) i.bytes used) where
      abbrev xs : List Occurrence
      xs = a.accepted.operators

      spelt : AllByRecursion HasSpelling xs
      spelt = listed_spelt xs _ i.bytes [] a.accepted.all.spelt

      operators_are : xs ≡ operators_of a.body
      operators_are = read_operators xs a.body (ap (progress_after nothing_read) a.accepted.lawful.is_body ∙ body_read a.body)

      used_is : used ≡ reads_local xs
      used_is = λ k. λ x. (a.used_is x ∙ ap (λ ys. among x (locals_read first_unreachability (marks ys))) (sym operators_are)) k

      tree_uses : used ≡ uses_local (body_tree i.environment a.body)
      tree_uses = used_is ∙ used_are i.environment xs a.body (lawful_named i.environment xs a.body spelt a.accepted.lawful).0

      -- the same body, with a validator that accepts everything
      same_body : (b : Body Occurrence) → Accepted (setting_with (read_again i) l) i.bytes b → b ≡ a.body
      same_body b h = one_body_accepted reading_agrees (Unit {0}) (setting_with (read_again i) l) i.bytes b a.body h (accepted_again l a.body a.accepted)

    module _ (by : EmitInput) where
      -- ---- why there is no raw body

      abbrev accepted_so : IsAcceptedAs asks i by with_some.body
      accepted_so = record { locations = some_locations i.on_instr_pos; are_given = both_some i.on_instr_pos; accepted = with_some.accepted }

      abbrev some_spelt : AllByRecursion HasSpelling with_some.accepted.operators
      some_spelt = spelt (some_locations i.on_instr_pos) with_some

      no_body : AreIdNumbers by.to → (e : EmitError) → HasNoRawBody by (body_tree i.environment with_some.body) e → RefusesRewriting asks i by (Emit e)
      no_body ids e h = inr (with_some.body, accepted_so, no_parsed_body i.environment with_some.accepted.operators with_some.body some_spelt with_some.accepted.lawful by ids e h)

      pub not_begun : AreIdNumbers by.to → (e : EmitError) → IsNotBegun by used e → RefusesRewriting asks i by (Emit e)
      not_begun ids e (inl memory) = inl memory
      not_begun ids e (inr h) =
          let is = tree_uses (some_locations i.on_instr_pos) with_some in no_body ids e (undeclared (subst (λ (u : ℕ → Bool). HasNoDeclarations by.to by.types by.args u e) is h))

      module _ (encoder : List ℕ) (entries : List (ℕ × ℕ)) (begins : BeginsRawBody by used encoder entries) (numbers : Numbers) (numbers_are : numbers ≡ numbering_locals by.to by.args (ids_of begins.declares.others)) where
        pub not_written : AreIdNumbers by.to → (e : EmitError) → RefusesWriting asks (read_again i) numbers e → RefusesRewriting asks i by (Emit e)
        not_written ids e h =
            let l = some_locations i.on_instr_pos in
            let d = begins.declares in
            let a = with_some in
            let same = same_body l a h.accepted.body h.accepted.accepted in
            let fault : written_of i.environment (numbering_locals by.to by.args (ids_of d.others)) a.accepted.operators ≡ Err e =
            ap (λ ys. written_of i.environment (numbering_locals by.to by.args (ids_of d.others)) ys) (operators_are l a ∙ ap operators_of (sym same))
            ∙ (ap (λ (k : Numbers). written_of i.environment k (operators_of h.accepted.body)) (sym numbers_are) ∙ h.fault) in
            inr (
              a.body,
              accepted_so,
              has_no_body i.environment a.accepted.operators a.body some_spelt a.accepted.lawful by ids d.others begins.declarations
                  (subst (λ (u : ℕ → Bool). AreDeclared by.types by.args u d.others) (used_is l a) d.are_declared) d.declarations_are e fault,
            )

        -- ---- what is written of the first operators

        pub composes_front : (has_map : Bool) (d : Drafted) → WritesFirst asks (read_again i) numbers (begun_draft encoder has_map) d → ComposesFront asks i by has_map d
        composes_front has_map d w =
            let l = some_locations i.on_instr_pos in
            let b = begins.declares in
            let same = same_body l with_some w.0.body w.0.accepted in
            let begun : List ℕ → Drafted = λ bytes. begun_draft bytes has_map in
            let writes = subst (λ (k : Numbers). WritesFront asks (read_again i) k (operators_of w.0.body) (begun encoder) d) numbers_are w.1 in
            let its = subst (λ c. WritesFront asks (read_again i) (numbering_locals by.to by.args (ids_of b.others)) (operators_of c) (begun encoder) d) same writes in
            record {
              body = with_some.body;
              accepted = accepted_so;
              others = b.others;
              are_declared = subst (λ (u : ℕ → Bool). AreDeclared by.types by.args u b.others) (tree_uses l with_some) b.are_declared;
              declarations = begins.declarations;
              declarations_are = b.declarations_are;
              writes = subst (λ bytes. WritesFront asks (read_again i) (numbering_locals by.to by.args (ids_of b.others)) (operators_of with_some.body) (begun bytes) d) begins.encoder_is its;
            }

        -- ---- the raw body

        pub composes : BalanceAlike (typing_of i.environment) by.to → AreBytes i.bytes → (has_map : Bool) (d : Drafted) → WritesBody asks (read_again i) numbers (begun_draft encoder has_map) d →
            Composes asks i by has_map d
        composes alike fits has_map d w =
            let l = mapped_by asks i w.mapping in
            let a = checks l (limited i.on_instr_pos l (mapped_both i.on_instr_pos i.offset w.mapping)) in
            let id = is_ok (entry_type_id i.environment) a.accepted.lawful.entry in
            let same = same_body l a w.body (accepted_of (setting_with (read_again i) l) i.bytes id.0 id.1 fits w.body w.is_parsed) in
            let b = begins.declares in
            let written : written_of i.environment (numbering_locals by.to by.args (ids_of b.others)) a.accepted.operators ≡ Ok w.operators =
            ap (λ ys. written_of i.environment (numbering_locals by.to by.args (ids_of b.others)) ys) (operators_are l a ∙ ap operators_of (sym same))
            ∙ (ap (λ (k : Numbers). written_of i.environment k (operators_of w.body)) (sym numbers_are) ∙ w.are_written) in
            let raw = has_raw_body i.environment a.accepted.operators a.body (spelt l a) a.accepted.lawful by alike b.others begins.declarations
            (subst (λ (u : ℕ → Bool). AreDeclared by.types by.args u b.others) (used_is l a) b.are_declared) b.declarations_are w.operators written in
            let declared = encoded.declaration_bytes begins.declarations in
            let bytes : declared ++ bytes_of w.operators ≡ d.output.bytes =
            ap (λ (xs : List ℕ). xs ++ bytes_of w.operators) (sym begins.encoder_is) ∙ sym (ap (λ (q : Drafted). q.output.bytes) w.draft ∙ drafted_bytes w.operators (begun_draft encoder has_map)) in
            record {
              mapping = w.mapping;
              body = a.body;
              accepted = a.accepted;
              is_mapping = subst (λ c. IsMapping asks i.on_instr_pos i.offset i.start (i.start + length i.bytes) (operators_of c) w.mapping) same w.is_mapping;
              pairs = pairs_from (length declared) w.operators;
              is_raw_body = subst (λ bs. IsRawBody by (body_tree i.environment a.body) bs (pairs_from (length declared) w.operators)) bytes raw.0;
              keeps = raw.1;
              kept_pairs = λ has.
                  ap (λ (q : Drafted). q.output.pairs) w.draft
                  ∙ (drafted_pairs w.operators (begun_draft encoder has_map) has ∙ ap (λ n. pairs_from n w.operators) (from_no_place (length encoder) ∙ ap length begins.encoder_is));
              no_pairs = λ none. ap (λ (q : Drafted). q.output.pairs) w.draft ∙ drafted_no_pairs w.operators (begun_draft encoder has_map) none;
            }

-- ---- with the new indices of a module

module _ {S F : Type 0} (asks : Shared F (Bor ℕ × Unit {0}) ℕ) (i : ParseInput S F) (m : Module) (out : IdsToIndices) (args : List ℕ) (used : ℕ → Bool) (checks : ChecksAll (setting_with i) (is_none i.on_instr_pos) i.bytes used (Ok tt)) where
  abbrev numbers_with : List (ℕ × ℕ) → Numbers
  numbers_with entries = numbers_by m.types out entries

  pub composed : BalanceAlike (typing_of i.environment) (numbers_by m.types out []) → AreBytes i.bytes → (has_map : Bool) (d : Drafted) → WritesAll asks (read_again i) (input_for out m args) has_map (numbers_by m.types out) used d →
      Composes asks i (input_for out m args) has_map d
  composed alike fits has_map d h =
      composes asks i used checks (input_for out m args) h.declared h.entries h.begins (numbers_with h.entries)
      (same_numbers m.types out m.locals args used h.begins.declarations h.entries h.begins.declares) alike fits has_map d h.writes

  pub composed_front : (has_map : Bool) (d : Drafted) → WritesPart asks (read_again i) (input_for out m args) has_map (numbers_by m.types out) used d → ComposesFront asks i (input_for out m args) has_map d
  composed_front has_map d h =
      composes_front asks i used checks (input_for out m args) h.declared h.entries h.begins (numbers_with h.entries)
      (same_numbers m.types out m.locals args used h.begins.declarations h.entries h.begins.declares) has_map d h.writes

  pub refused : (e : EmitError) → IsNotAllWritten asks (read_again i) (input_for out m args) (numbers_by m.types out) used e → RefusesRewriting asks i (input_for out m args) (Emit e)
  refused e (out_of_memory memory) = inl memory
  refused e (all_not_begun h) = not_begun asks i used checks (input_for out m args) (are_id_numbers m.types out) e h
  refused e (all_not_written declared entries begins h) =
      not_written asks i used checks (input_for out m args) declared entries begins (numbers_with entries) (same_numbers m.types out m.locals args used begins.declarations entries begins.declares)
      (are_id_numbers m.types out) e h
