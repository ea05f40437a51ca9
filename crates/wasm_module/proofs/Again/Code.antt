-- The code section that was written, read again, is written unchanged.
use Rattle.std.proofs.Common.{◌≡◌, ◌+◌, ◌<◌, ◌^◌, ℕ, List, [], ◌∷◌, ◌++◌, length, map, Ok, refl, sym, ap, ◌∙◌, subst, append_assoc}
use Rattle.std.specs.List.{AllByRecursion}
use Rattle.wasm_numbers.specs.Numbers.{u32}
use Rattle.wasm_numbers.proofs.ResultLemmas.{ok_same}
use Rattle.wasm_operators.specs.Shortest.{short_number}
use Rattle.wasm_body.specs.Pairs.{Pair}
use Rattle.wasm_sections.specs.CodeSections.{BodyAt, AreBodies, IsCode, entries, code_section}
use Rattle.wasm_sections.specs.Sections.{SectionAt}
use Rattle.wasm_sections.proofs.NumberLemmas.{short_read}
use Rattle.wasm_module.specs.declared.parsed.ParsedModule.{ParsedModule}
use Rattle.wasm_module.specs.ReadAgain.{IsRewrittenUnchanged}
use Rattle.wasm_module.specs.RewrittenCode.{IsRewritten, IsRewrittenWith}
use Rattle.wasm_module.specs.WrittenModules.{FitsSize, AreWritten, IsWrittenCode}
use Rattle.wasm_module.proofs.ModuleCodeLemmas.{none_empty}
use Rattle.wasm_module.proofs.ModuleLawLemmas.{split_one, split_two}

abbrev bytes_at : BodyAt → List ℕ
bytes_at b = b.bytes

-- ---- entries that were written are read as the bodies

entry_read : (raw : List ℕ) (raws : List (List ℕ)) → FitsSize raw → u32 (entries (raw ∷ raws)) ≡ Ok (length raw, raw ++ entries raws)
entry_read raw raws fits = ap u32 (append_assoc (short_number (length raw)) raw (entries raws)) ∙ short_read (length raw) (raw ++ entries raws) fits

entries_read : (end : ℕ) (text : List ℕ) (raws : List (List ℕ)) (bodies : List BodyAt) → AllByRecursion FitsSize raws → text ≡ entries raws → AreBodies end text bodies → map bytes_at bodies ≡ raws
entries_read end text [] [] fits e h = refl
entries_read end text [] (b ∷ bs) fits e h = absurd (none_empty text b.bytes h.0 e h.1)
entries_read end text (raw ∷ raws) [] fits e h = absurd (none_empty text raw (entries raws) h (ap u32 e ∙ entry_read raw raws fits.0))
entries_read end text (raw ∷ raws) (b ∷ bs) fits e h =
    let both = ok_same (length b.bytes, b.bytes ++ h.0) (length raw, raw ++ entries raws) (sym h.1 ∙ (ap u32 e ∙ entry_read raw raws fits.0)) in
    let long : length b.bytes ≡ length raw = ap (λ (x : ℕ × List ℕ). x.0) both in
    let parts : b.bytes ++ h.0 ≡ raw ++ entries raws = ap (λ (x : ℕ × List ℕ). x.1) both in
    let one = split_one b.bytes raw h.0 (entries raws) long parts in
    let others = entries_read end h.0 raws bs fits.1 (split_two b.bytes raw h.0 (entries raws) long parts) h.3 in
    λ i. one i ∷ others i

code_read : (end : ℕ) (raws : List (List ℕ)) (bodies : List BodyAt) → length raws < 2 ^ 32 → AllByRecursion FitsSize raws → IsCode end (code_section raws) bodies → map bytes_at bodies ≡ raws
code_read end raws bodies few fits h =
    let both = ok_same (length bodies, h.0) (length raws, entries raws) (sym h.1 ∙ short_read (length raws) (entries raws) few) in
    entries_read end h.0 raws bodies fits (ap (λ (x : ℕ × List ℕ). x.1) both) h.2

-- ---- bodies in order

module _ (source : ParsedModule) where
  -- each is written of some body of its function
  abbrev AreOfBodies : (function : ℕ) → List (List ℕ) → Type 0
  AreOfBodies function [] = Unit {0}
  AreOfBodies function (raw ∷ raws) = ((b : BodyAt) × IsRewritten source function b raw) × AreOfBodies (function + 1) raws

  of_bodies : (function : ℕ) (bodies : List BodyAt) (raws : List (List ℕ)) (pairs : List (List Pair)) → AreWritten IsRewrittenWith source function bodies raws pairs → AreOfBodies function raws
  of_bodies function [] [] [] w = tt
  of_bodies function (b ∷ bs) (raw ∷ raws) (ps ∷ pairs) w = ((b, w.0.rewritten), of_bodies (function + 1) bs raws pairs w.1)
  of_bodies function [] [] (ps ∷ pairs) w = absurd w
  of_bodies function [] (raw ∷ raws) pairs w = absurd w
  of_bodies function (b ∷ bs) [] pairs w = absurd w
  of_bodies function (b ∷ bs) (raw ∷ raws) [] w = absurd w

module _ (source again : ParsedModule) (unchanged : IsRewrittenUnchanged source again) where
  raws_unchanged :
      (function : ℕ) (raws : List (List ℕ)) (bodies : List BodyAt) (raws' : List (List ℕ)) (pairs : List (List Pair)) → AreOfBodies source function raws →
      AreWritten IsRewrittenWith again function bodies raws' pairs → map bytes_at bodies ≡ raws → raws' ≡ raws
  raws_unchanged function [] [] [] [] h w e = refl
  raws_unchanged function (raw ∷ raws) (b ∷ bs) (raw' ∷ raws') (ps ∷ pairs) h w e =
      let bytes : b.bytes ≡ raw = cc e in
      let rest : map bytes_at bs ≡ raws = cc e in
      let one = unchanged function h.0.0 b raw raw' h.0.1 bytes w.0.rewritten in
      let others = raws_unchanged (function + 1) raws bs raws' pairs h.1 w.1 rest in
      λ i. one i ∷ others i
  raws_unchanged function [] (b ∷ bs) raws' pairs h w e = absurd cc
  raws_unchanged function (raw ∷ raws) [] raws' pairs h w e = absurd cc
  raws_unchanged function [] [] [] (ps ∷ pairs) h w e = absurd w
  raws_unchanged function [] [] (raw' ∷ raws') pairs h w e = absurd w
  raws_unchanged function (raw ∷ raws) (b ∷ bs) [] pairs h w e = absurd w
  raws_unchanged function (raw ∷ raws) (b ∷ bs) (raw' ∷ raws') [] h w e = absurd w

  pub code_unchanged :
      (s read : SectionAt) (code code' : List ℕ) → again.imported ≡ source.imported → IsWrittenCode IsRewrittenWith source s code → read.contents ≡ code →
      IsWrittenCode IsRewrittenWith again read code' → code' ≡ code
  code_unchanged s read code code' imported one at two =
      let bodies = code_read read.end one.raws two.bodies one.few one.fit (subst (λ l. IsCode read.end l two.bodies) (at ∙ one.code_is) two.are_bodies) in
      let raws =
      raws_unchanged source.imported one.raws two.bodies two.raws two.pairs (of_bodies source source.imported one.bodies one.raws one.pairs one.are_written)
      (subst (λ k. AreWritten IsRewrittenWith again k two.bodies two.raws two.pairs) imported two.are_written) bodies in
      two.code_is ∙ (ap code_section raws ∙ sym one.code_is)
