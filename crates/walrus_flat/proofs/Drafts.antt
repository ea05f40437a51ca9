-- What is written aside, operator by operator.
use Rattle.std.proofs.Common.{◌≡◌, ℕ, ◌+◌, List, [], ◌∷◌, ◌++◌, length, Bool, true, false, Some, None, Result, Ok, Err, OnOk, IfErr, inl, refl, sym, ap, subst, ◌∙◌, append-nil, append_assoc, length-append, arith}
use Rattle.walrus_ir.specs.declared.val_type.InstrSeqType.{InstrSeqType}
use Rattle.wasm_operators.specs.Operations.{RawOperation}
use Rattle.wasm_operators.specs.Shortest.{short}
use Rattle.wasm_body.specs.declared.error.EmitError.{EmitError}
use Rattle.wasm_body.specs.declared.error.EmitError.TheVariants.{Memory}
use Rattle.wasm_body.specs.Bytes.{bytes_of}
use Rattle.wasm_body.specs.Pairs.{pairs_from}
use Rattle.wasm_body.specs.Translation.{Located, at_location}
use Rattle.walrus_emit_state.specs.Emission.{Output, pairs_after}
use Rattle.walrus_emit_state.specs.TreeWriting.Drafts.{Drafted, with_written}
use Rattle.wasm_body.specs.Control.{else_operation}
use Rattle.walrus_flat.specs.declared.writer.Writer.{Writer}
use Rattle.walrus_flat.specs.declared.sequences.Next.{Next}
use Rattle.walrus_flat.specs.declared.sequences.Next.TheVariants as next
use Rattle.walrus_flat.specs.Written.{drafted, waiting_else, awake_next, awake, waiting_location}
use Rattle.walrus_flat.specs.Writers.{renumbered, IsSameWriter, PutsAsIs}

pub drafted-append : (d : Drafted) (xs ys : List (Located RawOperation)) → drafted d (xs ++ ys) ≡ drafted (drafted d xs) ys
drafted-append d [] ys = refl
drafted-append d (x ∷ xs) ys = drafted-append (with_written d x) xs ys

-- the bytes
pub drafted_bytes : (zs : List (Located RawOperation)) (d : Drafted) → (drafted d zs).output.bytes ≡ d.output.bytes ++ bytes_of zs
drafted_bytes [] d = sym (append-nil d.output.bytes)
drafted_bytes (z ∷ zs) d = drafted_bytes zs (with_written d z) ∙ append_assoc d.output.bytes (short z.op) (bytes_of zs)

-- the pairs
one_pair : (b : Bool) (base : ℕ) (o : Output) (location : ℕ) → b ≡ true → pairs_after b base o location ≡ o.pairs ++ (location, base + length o.bytes) ∷ []
one_pair b base o location e = ap (λ c. pairs_after c base o location) e

place_more : (base : ℕ) (xs ys : List ℕ) → base + length (xs ++ ys) ≡ base + length xs + length ys
place_more base xs ys = omega (arith, length-append xs ys)

pub drafted_pairs : (zs : List (Located RawOperation)) (d : Drafted) → d.has_map ≡ true → (drafted d zs).output.pairs ≡ d.output.pairs ++ pairs_from (d.base + length d.output.bytes) zs
drafted_pairs [] d e = sym (append-nil d.output.pairs)
drafted_pairs (z ∷ zs) d e =
    drafted_pairs zs (with_written d z) e
    ∙ (ap (λ ps. ps ++ pairs_from (d.base + length (d.output.bytes ++ short z.op)) zs) (one_pair d.has_map d.base d.output z.location e)
    ∙ (ap (λ n. (d.output.pairs ++ (z.location, d.base + length d.output.bytes) ∷ []) ++ pairs_from n zs) (place_more d.base d.output.bytes (short z.op))
    ∙ append_assoc d.output.pairs ((z.location, d.base + length d.output.bytes) ∷ []) (pairs_from (d.base + length d.output.bytes + length (short z.op)) zs)))

pub drafted_no_pairs : (zs : List (Located RawOperation)) (d : Drafted) → d.has_map ≡ false → (drafted d zs).output.pairs ≡ d.output.pairs
drafted_no_pairs [] d e = refl
drafted_no_pairs (z ∷ zs) d e = drafted_no_pairs zs (with_written d z) e ∙ ap (λ (b : Bool). pairs_after b d.base d.output z.location) e

-- an operator that was written after the `else` that waited
pub written_as_is : (old w new : Writer) (o p : RawOperation) (ty : InstrSeqType) (location : ℕ) → w ≡ record old { draft = drafted old.draft (waiting_else old.«open».next); «open» = awake old.«open» } →
    renumbered w ty o ≡ Ok p → IsSameWriter w new → new.«open» ≡ w.«open» → (r : Result (Unit {0}) EmitError) → OnOk r (new.draft ≡ with_written w.draft (at_location p location)) → IfErr r (λ e. e ≡ Memory) → PutsAsIs old new o ty location r
written_as_is old w new o p ty location is e same stays (Ok u) ok err =
    record {
      same = record {
        «module» = same.«module» ∙ ap (λ (k : Writer). k.«module») is;
        indices = same.indices ∙ ap (λ (k : Writer). k.indices.ids) is;
        function = same.function ∙ ap (λ (k : Writer). k.indices.function) is;
        ty = same.ty ∙ ap (λ (k : Writer). k.ty) is;
        out = same.out ∙ ap (λ (k : Writer). k.out) is;
        locals = same.locals ∙ ap (λ (k : Writer). k.locals.numbered) is;
      };
      operator = p;
      is_renumbered = subst (λ (k : Writer). renumbered k ty o ≡ Ok p) is e;
      draft = ok ∙ (ap (λ (k : Writer). with_written k.draft (at_location p location)) is ∙ sym (drafted-append old.draft (waiting_else old.«open».next) (at_location p location ∷ [])));
      «open» = stays ∙ ap (λ (k : Writer). k.«open») is;
    }
written_as_is old w new o p ty location is e same stays (Err f) ok err = inl err

-- where no `else` waits nothing is written
none_waiting : (n : Next) → waiting_location n ≡ None → (waiting_else n ≡ []) × (awake_next n ≡ n)
none_waiting next.Live e = (refl, refl)
none_waiting (next.Waits l) e = absurd cc
none_waiting next.Unreachable e = (refl, refl)

pub nothing_waits : (w : Writer) → waiting_location w.«open».next ≡ None → w ≡ record w { draft = drafted w.draft (waiting_else w.«open».next); «open» = awake w.«open» }
nothing_waits w e =
    let n = none_waiting w.«open».next e in
    λ k. record w { draft = drafted w.draft (sym n.0 k); «open» = record w.«open» { next = sym n.1 k } }

-- and where one does it is written
one_waiting : (n : Next) (l : ℕ) → waiting_location n ≡ Some l → (at_location else_operation l ∷ [] ≡ waiting_else n) × (next.Live ≡ awake_next n)
one_waiting next.Live l e = absurd cc
one_waiting (next.Waits k) l e = let same : k ≡ l = cc e in (ap (λ m. at_location else_operation m ∷ []) (sym same), refl)
one_waiting next.Unreachable l e = absurd cc

pub else_waited : (w new : Writer) (l : ℕ) → waiting_location w.«open».next ≡ Some l → new ≡ record w { draft = with_written w.draft (at_location else_operation l); «open» = record w.«open» { next = next.Live } } →
    new ≡ record w { draft = drafted w.draft (waiting_else w.«open».next); «open» = awake w.«open» }
else_waited w new l e is =
    let n = one_waiting w.«open».next l e in
    is ∙ (λ k. record w { draft = drafted w.draft (n.0 k); «open» = record w.«open» { next = n.1 k } })
