-- Exports that are added at once: the names that are known, and the exports that are put.
use Rattle.std.proofs.Common.{◌≡◌, ◌≢◌, ◌⊎◌, ◌↔◌, inl, inr, ℕ, ◌+◌, ◌<◌, List, [], ◌∷◌, ◌++◌, length, drop, append-nil, append_assoc, Bool, true, false, cond, eqb, Option, Some, Result, Ok, refl, sym, ap, subst, ◌∙◌}
use Rattle.std.specs.Str.{bytes_eq}
use Rattle.std.proofs.lemmas.Bool.{cases_Bool, cond-true, cond-false, false_from_ne_true}
use Rattle.std.proofs.lemmas.Slice.Eq.{bytes_eq-Decides}
use Rattle.std.proofs.lemmas.List.{drop_more}
use Rattle.wasm_sections.specs.declared.exports.Export.{Export}
use Rattle.wasm_sections.specs.declared.fault.ModuleError.{ModuleError}
use Rattle.wasm_sections.specs.declared.items.Items.{Items}
use Rattle.wasm_sections.specs.Format.{export_part}
use Rattle.wasm_sections.specs.Views.{TakesItem, IsExportKind, export_value}
use Rattle.wasm_sections.proofs.ExportNameLemmas.{IsAmong, none_before, one_named, one_other, none_named}
use Rattle.wasm_module.specs.AddedItems.{export_of}
use Rattle.module_items.specs.declared.new_exports.NewExport.{NewExport}
use Rattle.wasm_operators.specs.Shortest.{short_number}
use Rattle.wasm_sections.specs.declared.changes.Changes.{Changes}
use Rattle.wasm_sections.specs.Additions.{SetsContents}
use Rattle.module_items.specs.Renaming.{HasExportIn}
use Rattle.module_items.specs.NewExports.{HaveFreeNames, AreExportsWritten, exports_counted, FollowExports, AreExportsAdded}

-- ---- names that are known

-- Of all exports those before these are known, as far as this name goes.
pub record KnowsName (known : Type 0) (name : List ℕ) (all s : Items) : Type 0 where
  pub forth : IsAmong name all → known ⊎ IsAmong name s
  pub back : known → IsAmong name all
  pub later : IsAmong name s → IsAmong name all

pub none_known : (name : List ℕ) (all : Items) (has : Bool) → has ≡ false → KnowsName (has ≡ true) name all all
none_known name all has none = record { forth = λ h. inr h; back = λ h. absurd cc; later = λ h. h }

module _ (name : List ℕ) (all s t : Items) (x : Export) (has has' : Bool) (adds : has' ≡ cond (bytes_eq x.name.now name) true has)
    (takes : TakesItem export_part export_value (λ x. x.at) s (Some (Ok x)) t) (p : KnowsName (has ≡ true) name all s) where
  named : bytes_eq x.name.now name ≡ true → KnowsName (has' ≡ true) name all t
  named e =
      let is = adds ∙ cond-true (bytes_eq x.name.now name) true has e in
      let here = one_named name s s t x (none_before name s s refl) takes ((bytes_eq-Decides x.name.now name).0 e) in
      record { forth = λ h. inl is; back = λ h. p.later here; later = λ h. p.later here }

  other : bytes_eq x.name.now name ≡ false → KnowsName (has' ≡ true) name all t
  other e =
      let same = adds ∙ cond-false (bytes_eq x.name.now name) true has e in
      let q = one_other name s s t x (none_before name s s refl) takes (λ is. let yes = (bytes_eq-Decides x.name.now name).1 is in absurd cc) in
      record {
        forth = λ h. elim (p.forth h) [ inl k ↦ inl (same ∙ k) | inr later ↦ inr (q.forth later) ];
        back = λ h. p.back (sym same ∙ h);
        later = λ h. p.later (q.back h);
      }

  pub known_step : KnowsName (has' ≡ true) name all t
  known_step = elim (cases_Bool (bytes_eq x.name.now name)) [ inl e ↦ named e | inr e ↦ other e ]

pub all_known : (name : List ℕ) (all s : Items) (has : Bool) → KnowsName (has ≡ true) name all s → s.count ≡ 0 → (has ≡ true) ↔ IsAmong name all
all_known name all s has p none = (
  p.back,
  λ h. elim (p.forth h) [ inl k ↦ k | inr later ↦ absurd (none_named name s s (none_before name s s refl) none later) ],
)

-- ---- exports that are put

pub fewer_taken : (P Q : List ℕ → Type 0) → ((name : List ℕ) → P name → Q name) → (xs : List NewExport) → HaveFreeNames Q xs → HaveFreeNames P xs
fewer_taken P Q all [] h = tt
fewer_taken P Q all (x ∷ xs) h = (
  λ taken. h.0 (all x.name.now taken),
  fewer_taken (λ name. P name ⊎ (name ≡ x.name.now)) (λ name. Q name ⊎ (name ≡ x.name.now))
      (λ name p. elim p [ inl k ↦ inl (all name k) | inr e ↦ inr e ]) xs h.1,
)

-- Those before these are put: the names are known that were, and theirs; and their bytes are appended.
pub record HavePut (has_before has : List ℕ → Bool) (all left : List NewExport) (before out : List ℕ) : Type 0 where
  pub free : HaveFreeNames (λ name. has name ≡ true) left → HaveFreeNames (λ name. has_before name ≡ true) all
  pub taken : HaveFreeNames (λ name. has_before name ≡ true) all → HaveFreeNames (λ name. has name ≡ true) left
  pub put : List ℕ
  pub out_is : out ≡ before ++ put
  pub written : (more : List ℕ) → AreExportsWritten left more → AreExportsWritten all (put ++ more)

pub none_put : (has : List ℕ → Bool) (all : List NewExport) (before out : List ℕ) → out ≡ before → HavePut has has all all before out
none_put has all before out same = record {
  free = λ h. h;
  taken = λ h. h;
  put = [];
  out_is = same ∙ sym (append-nil before);
  written = λ more w. w;
}

module _ (has_before has has' : List ℕ → Bool) (all left : List NewExport) (x : NewExport) (before out out' : List ℕ) (kind : ℕ) (new : has x.name.now ≡ false)
    (adds : (other : List ℕ) → has' other ≡ cond (bytes_eq x.name.now other) true (has other)) (is_kind : IsExportKind x.space kind)
    (appends : out' ≡ out ++ export_of x.name.now kind x.index) (p : HavePut has_before has all (x ∷ left) before out) where
  known_or : (name : List ℕ) → has' name ≡ true → (has name ≡ true) ⊎ (name ≡ x.name.now)
  known_or name h = elim (cases_Bool (bytes_eq x.name.now name)) [
    | inl e ↦ inr (sym ((bytes_eq-Decides x.name.now name).0 e))
    | inr e ↦ inl (sym (adds name ∙ cond-false (bytes_eq x.name.now name) true (has name) e) ∙ h)
  ]

  or_known : (name : List ℕ) → (has name ≡ true) ⊎ (name ≡ x.name.now) → has' name ≡ true
  or_known name (inl k) = elim (cases_Bool (bytes_eq x.name.now name)) [
    | inl e ↦ adds name ∙ cond-true (bytes_eq x.name.now name) true (has name) e
    | inr e ↦ adds name ∙ cond-false (bytes_eq x.name.now name) true (has name) e ∙ k
  ]
  or_known name (inr e) = adds name ∙ cond-true (bytes_eq x.name.now name) true (has name) ((bytes_eq-Decides x.name.now name).1 (sym e))

  pub put_step : HavePut has_before has' all left before out'
  put_step = record {
    free = λ h. p.free (
      (λ known. absurd cc),
      fewer_taken (λ name. (has name ≡ true) ⊎ (name ≡ x.name.now)) (λ name. has' name ≡ true) or_known left h,
    );
    taken = λ h. fewer_taken (λ name. has' name ≡ true) (λ name. (has name ≡ true) ⊎ (name ≡ x.name.now)) known_or left (p.taken h).1;
    put = p.put ++ export_of x.name.now kind x.index;
    out_is = appends ∙ ap (λ (l : List ℕ). l ++ export_of x.name.now kind x.index) p.out_is ∙ append_assoc before p.put (export_of x.name.now kind x.index);
    written = λ more w.
        subst (λ (l : List ℕ). AreExportsWritten all l) (sym (append_assoc p.put (export_of x.name.now kind x.index) more))
        (p.written (export_of x.name.now kind x.index ++ more) (kind, is_kind, more, w, refl));
  }

pub none_left : (has_before has : List ℕ → Bool) (all : List NewExport) (before out : List ℕ) → HavePut has_before has all [] before out
    → (bytes : List ℕ) × AreExportsWritten all bytes × (out ≡ before ++ bytes)
none_left has_before has all before out p = (p.put, subst (λ (l : List ℕ). AreExportsWritten all l) (append-nil p.put) (p.written [] refl), p.out_is)

-- ---- exports that follow others

pub follow : (exports : List NewExport) (c d : Option (ℕ × List ℕ)) (old new : Changes) (made : List ℕ) → c ≡ d → HaveFreeNames (λ name. HasExportIn name c) exports
    → (count : ℕ) × (items : List ℕ) × (bytes : List ℕ) × (exports_counted c ≡ Ok (count, items)) × AreExportsWritten exports bytes
    × (made ≡ short_number (count + length exports) ++ (items ++ bytes))
    → SetsContents old new 7 made → FollowExports exports d old new
follow exports c d old new made same free w sets = record {
  free = subst (λ (x : Option (ℕ × List ℕ)). HaveFreeNames (λ name. HasExportIn name x) exports) same free;
  count = w.0;
  items = w.1;
  counted = ap exports_counted (sym same) ∙ w.3;
  bytes = w.2;
  written = w.4;
  sets = subst (SetsContents old new 7) w.5 sets;
}

pub some_follow : (exports : List NewExport) (contents : Option (ℕ × List ℕ)) (old new : Changes) → eqb (length exports) 0 ≡ false → FollowExports exports contents old new
    → AreExportsAdded exports contents old new
some_follow [] contents old new some h = absurd cc
some_follow (x ∷ xs) contents old new some h = h
