-- An operator with its indices replaced by the numbers of their ids is its name with numbers.
use Rattle.std.proofs.Common.{◌≡◌, ℕ, List, [], ◌∷◌, length, Bool, true, false, Option, Some, None, Result, Ok, Err, refl, sym, ap, subst, ◌∙◌}
use Rattle.std.specs.Prelude.{IsOk, nat_lt, ◌^◌}
use Rattle.std.specs.List.{AllByRecursion}
use Rattle.walrus_ir.specs.declared.val_type.InstrSeqType.{InstrSeqType}
use Rattle.wasm_types.specs.declared.val_type.HeapType.{HeapType}
use Rattle.wasm_types.specs.declared.val_type.HeapType.TheVariants.{Abstract, Concrete}
use Rattle.wasm_types.specs.declared.val_type.ValType.TheVariants.{Ref}
use Rattle.walrus_ir.specs.Types.{Signature}
use Rattle.wasm_numbers.specs.Results.{◌>>=◌, unless, with_fault}
use Rattle.wasm_numbers.proofs.ResultLemmas.{bind_ok}
use Rattle.wasm_numbers.specs.Numbers.{IsU32}
use Rattle.wasm_operators.specs.declared.types.BlockType.{BlockType}
use Rattle.wasm_operators.specs.declared.types.Space.{Space}
use Rattle.wasm_operators.specs.declared.types.Space.TheVariants.{Types, Memories, Tags}
use Rattle.wasm_operators.specs.Immediates.{SpellsImmediate, SpellsImmediates, IsClause}
use Rattle.wasm_operators.specs.Operations.{Immediate, RawImmediate, index, local, label, handler, outer, number, access, branch_table, clauses, block, heap, value, cast, operation}
use Rattle.wasm_operators.proofs.Shortness.{many_length}
use Rattle.wasm_body.specs.declared.error.EmitError.{EmitError}
use Rattle.wasm_body.specs.declared.error.EmitError.TheVariants as emit
use Rattle.wasm_body.specs.declared.error.IndexError.{IndexError}
use Rattle.wasm_body.specs.declared.error.ParseError.{ParseError}
use Rattle.wasm_body.specs.declared.error.ParseError.TheVariants.{Index, NoSuchLabel, RethrowOutsideHandler}
use Rattle.wasm_body.specs.Frames.{SequenceFrame, handler_at, outside}
use Rattle.wasm_body.specs.Translation.{Translation, translate, translate_immediates}
use Rattle.wasm_body.specs.Naming.{Environment, NamedOperation, Occurrence, naming, open_label, handler_label}
use Rattle.wasm_body.specs.Bytes.{Numbers, in_32_bits, numbers_in_32_bits}
use Rattle.wasm_body.proofs.Bytes.NumberedBodies.{u32_fits}
use Rattle.wasm_body.proofs.Translation.Steps.{bound, all_of}
use Rattle.wasm_body.proofs.Translation.Translations.{LeadsLabel, LeadsCount, LeadsClause, LeadsHeap, LeadsTag, LeadsAt, translate_leads}
use Rattle.wasm_body.specs.Flat.{renumbering}
use Rattle.wasm_renumber.specs.Changes.{changing}
use Rattle.walrus_flat.specs.Written.{writing_changes}
use Rattle.walrus_flat.specs.Laws.{RenumbersNamed}

-- ---- numbers that fit

fits_is : (b : Bool) (n : ℕ) → (let r : Result ℕ EmitError = unless b emit.TooLarge >>= (λ u. Ok n) in IsOk r) → (let r : Result ℕ EmitError = unless b emit.TooLarge >>= (λ u. Ok n) in r) ≡ Ok n
fits_is true n h = refl
fits_is false n h = absurd cc

u32_is : (n : ℕ) (text : List ℕ) → IsU32 n text → in_32_bits n ≡ Ok n
u32_is n text s = fits_is (nat_lt n (2 ^ 32)) n (u32_fits n text s)

-- ---- labels stay

open_stays : {A : Type 0} (fs : List (SequenceFrame A)) (n l : ℕ) → open_label fs n ≡ Ok l → n ≡ l
open_stays fs n l e = let both = (bind_ok (unless (nat_lt n (length fs)) NoSuchLabel) (λ u. Ok n) l e).2 in cc

handler_stays : {A : Type 0} (fs : List (SequenceFrame A)) (n l : ℕ) → handler_label fs n ≡ Ok l → n ≡ l
handler_stays fs n l e =
    let opened = bind_ok (open_label fs n) (λ m. unless (handler_at fs n) RethrowOutsideHandler >>= λ u. Ok n) l e in
    let both = (bind_ok (unless (handler_at fs n) RethrowOutsideHandler) (λ u. Ok n) l opened.2).2 in cc

by_id : (give : ℕ → Result ℕ EmitError) (r : Result ℕ IndexError) (q : ℕ) → with_fault Index r ≡ Ok q → give q ≡ (with_fault emit.Index r >>= give)
by_id give (Ok id) q e = let same : id ≡ q = cc e in ap give (sym same)
by_id give (Err f) q e = absurd cc

module _ (env : Environment) (fs : List (SequenceFrame Occurrence)) (to : Numbers) (t : InstrSeqType) where
  abbrev names : Translation ℕ BlockType ℕ Signature ParseError
  names = naming env fs

  abbrev numbers : Translation ℕ Signature ℕ BlockType EmitError
  numbers = renumbering to t

  abbrev both : Translation ℕ BlockType ℕ BlockType EmitError
  both = changing (writing_changes env.id_of env.local_of to t)

  index_leads : (space : Space) (n q : ℕ) → names.index space n ≡ Ok q → numbers.index space q ≡ both.index space n
  index_leads space n q e = by_id ((numbers_in_32_bits to).number_of space) (env.id_of space n) q e

  label_leads : (n q : ℕ) → names.label n ≡ Ok q → numbers.label q ≡ both.label n
  label_leads n q e = ap in_32_bits (sym (open_stays fs n q e))

  heap_leads : (h : HeapType ℕ) → LeadsHeap names.index numbers.index both.index h
  heap_leads (Abstract a) = tt
  heap_leads (Concrete n) = index_leads Types n

  tag_leads : (g : Option ℕ) → LeadsTag names.index numbers.index both.index g
  tag_leads None = tt
  tag_leads (Some n) = index_leads Tags n

  count_leads : (n : ℕ) (text : List ℕ) → IsU32 n text → LeadsCount names numbers both n
  count_leads n text s u e = ap (λ r. r >>= λ _. Ok tt) (u32_is n text s)

  leads_at : (i : RawImmediate) (text : List ℕ) → SpellsImmediate i text → LeadsAt names numbers both i
  leads_at (index space n) text s = index_leads space n
  leads_at (local n) text s = by_id (numbers_in_32_bits to).local_number (env.local_of n)
  leads_at (label l) text s = label_leads l
  leads_at (handler n) text s = λ q e. ap in_32_bits (sym (handler_stays fs n q e))
  leads_at (outer n) text s = λ q e. ap in_32_bits (sym (open_stays (outside fs) n q e))
  leads_at (number n) text s = λ q e. let same : n ≡ q = cc e in subst (λ k. in_32_bits k ≡ Ok n) same (u32_is n text s)
  leads_at (access a) text s = (index_leads Memories a.memory, refl)
  leads_at (branch_table ts d) text s =
      let e : s.0.1 ≡ (ts, d) = cc s.1 in
      let inner = s.2.4 in
      let long : s.0.0 ≡ length s.0.1.0 = many_length IsU32 s.0.0 s.0.1.0 inner.0 inner.3 in
      let same : s.0.1.0 ≡ ts = ap (λ (x : List ℕ × ℕ). x.0) e in
      let whole : s.0.0 ≡ length ts = long ∙ ap length same in
      (subst (LeadsCount names numbers both) whole (count_leads s.0.0 s.2.0 s.2.3), all_of (LeadsLabel names numbers both) label_leads ts, label_leads d)
  leads_at (clauses cs) text s =
      let e : s.0.1 ≡ cs = cc s.1 in
      let long : s.0.0 ≡ length s.0.1 = many_length IsClause s.0.0 s.0.1 s.2.1 s.2.4 in
      let whole : s.0.0 ≡ length cs = long ∙ ap length e in
      (subst (LeadsCount names numbers both) whole (count_leads s.0.0 s.2.0 s.2.3), all_of (LeadsClause names numbers both) (λ c. (tag_leads c.tag, label_leads c.label)) cs)
  leads_at (block b) text s = λ q e. refl
  leads_at (heap h) text s = heap_leads h
  leads_at (value (Ref r)) text s = heap_leads r.heap_type
  leads_at (value v) text s = tt
  leads_at (cast c) text s = (label_leads c.label, heap_leads c.source, heap_leads c.target)
  leads_at i text s = tt

  all_lead : (is : List RawImmediate) (text : List ℕ) → SpellsImmediates is text → AllByRecursion (LeadsAt names numbers both) is
  all_lead [] text s = tt
  all_lead (i ∷ is) text s = (leads_at i s.0 s.3, all_lead is s.1 s.4)

pub renumbers_named : RenumbersNamed
renumbers_named env fs o text named spells e to t =
    let made : List (Immediate ℕ Signature) → Result NamedOperation ParseError = λ is. Ok (operation o.opcode is) in
    let is = bound (translate_immediates (naming env fs) o.immediates) made named e in
    let same : operation o.opcode is.0 ≡ named = cc is.2 in
    let leads = translate_leads (naming env fs) (renumbering to t) (changing (writing_changes env.id_of env.local_of to t)) o.immediates
    (all_lead env fs to t o.immediates spells.others spells.immediates) is.0 is.1 in
    ap (λ r. r >>= λ js. Ok (operation o.opcode js)) (sym leads) ∙ ap (translate (renumbering to t)) same
