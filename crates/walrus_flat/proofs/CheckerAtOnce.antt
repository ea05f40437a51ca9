-- Common operators that are checked at once.
use Rattle.std.proofs.Common.{◌≡◌, ◌≢◌, ℕ, [], reverse, length, Bool, true, false, Ok, Err, Result, refl, sym, ap, subst, ◌∙◌}
use Rattle.std.specs.Prelude.{◌||◌, ◌==◌, cond, nat_lt, IsOk}
use Rattle.std.specs.Bool.{OnTrue, OnFalse}
use Rattle.std.proofs.lemmas.Bool.{eqb-true}
use Rattle.wasm_operators.specs.declared.types.Space.{Space}
use Rattle.wasm_operators.specs.declared.types.Space.TheVariants.{Funcs, Globals, Memories}
use Rattle.wasm_operators.specs.declared.types.RawMemArg.{RawMemArg}
use Rattle.wasm_operators.specs.declared.operator.Op.TheVariants as op
use Rattle.wasm_operators.specs.Meaning.{Listed, meaning}
use Rattle.wasm_ops.specs.declared.common.CommonOperator.{CommonOperator}
use Rattle.wasm_ops.specs.declared.common.CommonOperator.TheVariants as common
use Rattle.wasm_ops.specs.CommonOperators.{common_listed}
use Rattle.walrus_maps.specs.IndexMaps.{id_of}
use Rattle.walrus_from_operators.specs.OperatorKinds.{is_instruction}
use Rattle.walrus_parser.specs.OperatorKinds.{makes_unreachable}
use Rattle.walrus_flat.specs.declared.checker.Checker.{Checker}
use Rattle.walrus_flat.specs.Checked.{env_of_checker, check_state_of, StepsChecker, StaysSame, ChecksAtOnce}
use Rattle.walrus_flat.specs.UsedLocals.{is_found}
use Rattle.walrus_flat.specs.Checkers.{parts_in, NamesLocal, TakesOperator}
use Rattle.walrus_flat.proofs.CheckerOperators.{at_local_get, at_local_set, at_local_tee, at_other, at_drop, at_i32, at_i64, at_unary, at_binary}

-- ---- results

pub when_true : {P : Type 0} (b : Bool) → (b ≡ true → P) → OnTrue b P
when_true true f = f refl
when_true false f = tt

pub when_false : {P : Type 0} (b : Bool) → (b ≡ false → P) → OnFalse b P
when_false true f = tt
when_false false f = f refl

-- ---- marks of locals

-- a local that is used already adds nothing
pub used_already : (unreachable : Bool) (used : ℕ → Bool) (id x : ℕ) → used id ≡ true → used x ≡ (cond unreachable false (x == id) || used x)
used_already true used id x h = refl
used_already false used id x h = again (x == id) (used x) (λ same. ap used (eqb-true x id same) ∙ h)
  where
    again : (named was : Bool) → (named ≡ true → was ≡ true) → was ≡ (named || was)
    again true was is = is refl
    again false was is = refl

-- ---- what isn't taken at once

pub same_state : (old mid : Checker) → StaysSame old mid → check_state_of mid ≡ check_state_of old
same_state old mid same = λ i. record { frames = reverse (same.is i).«open».items; unreachable = (same.is i).unreachable; used = λ x. same.used x i }

pub still_some : (old mid : Checker) → StaysSame old mid → old.«open».items ≢ [] → mid.«open».items ≢ []
still_some old mid same some none = some (sym (ap (λ (k : Checker). k.«open».items) same.is) ∙ none)

-- ---- common operators

-- each is an operator by itself
pub is_alone : (c : CommonOperator) → is_instruction (common_listed c) ≡ true
is_alone (common.LocalGet n) = refl
is_alone _ = refl

module _ (old new : Checker) (some : old.«open».items ≢ []) (x : Listed) where
  -- ---- locals

  module _ (n : ℕ) where
    pub get_at_once : x ≡ op.LocalGet n → (b : Bool) → OnTrue b (NamesLocal old new n) → OnFalse b (StaysSame old new) → ChecksAtOnce old new (meaning x) b
    get_at_once is true done same = (at_local_get old new some x (Ok tt) n is done tt, ap env_of_checker done.is)
    get_at_once is false done same = same

    pub set_at_once : x ≡ op.LocalSet n → (b : Bool) → OnTrue b (NamesLocal old new n) → OnFalse b (StaysSame old new) → ChecksAtOnce old new (meaning x) b
    set_at_once is true done same = (at_local_set old new some x (Ok tt) n is done tt, ap env_of_checker done.is)
    set_at_once is false done same = same

    pub tee_at_once : x ≡ op.LocalTee n → (b : Bool) → OnTrue b (NamesLocal old new n) → OnFalse b (StaysSame old new) → ChecksAtOnce old new (meaning x) b
    tee_at_once is true done same = (at_local_tee old new some x (Ok tt) n is done tt, ap env_of_checker done.is)
    tee_at_once is false done same = same

  -- an operator by itself whose parts exist
  taken_at_once : is_instruction x ≡ true → ((n : ℕ) → x ≢ op.LocalGet n) → ((n : ℕ) → x ≢ op.LocalSet n) → ((n : ℕ) → x ≢ op.LocalTee n) →
      TakesOperator old new (meaning x) (makes_unreachable x) → StepsChecker old new (meaning x) (Ok tt)
  taken_at_once i g s t takes = (at_other old new some x (Ok tt) i g s t takes tt, ap env_of_checker takes.is)

module _ (old : Checker) where
  pub same_checker : StaysSame old old
  same_checker = record { used = λ x. refl; is = refl }

module _ (old : Checker) (some : old.«open».items ≢ []) (x : Listed) where
  -- ---- operators without parts

  pub drop_at_once : x ≡ op.Drop → ChecksAtOnce old old (meaning x) true
  drop_at_once is = (at_drop old some x is, refl)

  pub i32_at_once : (n : _) → x ≡ op.I32Const n → ChecksAtOnce old old (meaning x) true
  i32_at_once n is = (at_i32 old some x n is, refl)

  pub i64_at_once : (n : _) → x ≡ op.I64Const n → ChecksAtOnce old old (meaning x) true
  i64_at_once n is = (at_i64 old some x n is, refl)

  pub unary_at_once : (u : _) → x ≡ op.Unop u → ChecksAtOnce old old (meaning x) true
  unary_at_once u is = (at_unary old some x u is, refl)

  pub binary_at_once : (u : _) → x ≡ op.Binop u → ChecksAtOnce old old (meaning x) true
  binary_at_once u is = (at_binary old some x u is, refl)

module _ (old : Checker) (some : old.«open».items ≢ []) where
  -- ---- operators with an index or a label

  by_parts : (x : Listed) (b : Bool) → is_instruction x ≡ true → ((n : ℕ) → x ≢ op.LocalGet n) → ((n : ℕ) → x ≢ op.LocalSet n) → ((n : ℕ) → x ≢ op.LocalTee n) → makes_unreachable x ≡ false →
      (b ≡ true → IsOk (parts_in old (meaning x))) → ChecksAtOnce old old (meaning x) b
  by_parts x true i g s t stays parts =
      taken_at_once old old some x i g s t (record { parts = parts refl; is = ap (λ d. record old { unreachable = d || old.unreachable }) (sym stays) })
  by_parts x false i g s t stays parts = same_checker old

  found : {A E : Type 0} (r : Result A E) → is_found r ≡ true → (a : A) × (r ≡ Ok a)
  found (Ok a) is = (a, refl)
  found (Err e) is = absurd (cc is)

  module _ (b : Bool) where
    abbrev Taken : Listed → Type 0
    Taken o = ChecksAtOnce old old (meaning o) b

    module _ (space : Space) (n : ℕ) (has : b ≡ is_found (id_of old.indices.ids.now space n)) where
      its_id : b ≡ true → (id : ℕ) × (id_of old.indices.ids.now space n ≡ Ok id)
      its_id is = found (id_of old.indices.ids.now space n) (sym has ∙ is)

    pub call_at_once : (x : Listed) (n : ℕ) → x ≡ op.Call n → b ≡ is_found (id_of old.indices.ids.now Funcs n) → Taken x
    call_at_once x n is has = subst Taken (sym is) (by_parts (op.Call n) b refl (λ m h. cc) (λ m h. cc) (λ m h. cc) refl (λ t. let f = its_id Funcs n has t in rw f.1 refl))

    pub global_get_at_once : (x : Listed) (n : ℕ) → x ≡ op.GlobalGet n → b ≡ is_found (id_of old.indices.ids.now Globals n) → Taken x
    global_get_at_once x n is has = subst Taken (sym is) (by_parts (op.GlobalGet n) b refl (λ m h. cc) (λ m h. cc) (λ m h. cc) refl (λ t. let f = its_id Globals n has t in rw f.1 refl))

    pub global_set_at_once : (x : Listed) (n : ℕ) → x ≡ op.GlobalSet n → b ≡ is_found (id_of old.indices.ids.now Globals n) → Taken x
    global_set_at_once x n is has = subst Taken (sym is) (by_parts (op.GlobalSet n) b refl (λ m h. cc) (λ m h. cc) (λ m h. cc) refl (λ t. let f = its_id Globals n has t in rw f.1 refl))

    module _ (m : RawMemArg) (has : b ≡ is_found (id_of old.indices.ids.now Memories m.memory)) where
      pub load_at_once : (x : Listed) (k : _) → x ≡ op.Load k m → Taken x
      load_at_once x k is = subst Taken (sym is) (by_parts (op.Load k m) b refl (λ n h. cc) (λ n h. cc) (λ n h. cc) refl (λ t. let f = its_id Memories m.memory has t in rw f.1 refl))

      pub store_at_once : (x : Listed) (k : _) → x ≡ op.Store k m → Taken x
      store_at_once x k is = subst Taken (sym is) (by_parts (op.Store k m) b refl (λ n h. cc) (λ n h. cc) (λ n h. cc) refl (λ t. let f = its_id Memories m.memory has t in rw f.1 refl))

    pub br_if_at_once : (x : Listed) (n : ℕ) → x ≡ op.BrIf n → b ≡ nat_lt n (length (reverse old.«open».items)) → Taken x
    br_if_at_once x n is has = subst Taken (sym is) (by_parts (op.BrIf n) b refl (λ m h. cc) (λ m h. cc) (λ m h. cc) refl (λ t. let k : nat_lt n (length (reverse old.«open».items)) ≡ true = sym has ∙ t in rw k refl))

  pub no_br : (n : ℕ) → ChecksAtOnce old old (meaning (op.Br n)) false
  no_br n = same_checker old

  pub br_at_once : (n : ℕ) → nat_lt n (length (reverse old.«open».items)) ≡ true → ChecksAtOnce old (record old { unreachable = true }) (meaning (op.Br n)) true
  br_at_once n is = taken_at_once old (record old { unreachable = true }) some (op.Br n) refl (λ m h. cc) (λ m h. cc) (λ m h. cc) (record { parts = rw is refl; is = refl })

-- an operator that is listed in another way
pub as_listed : (old new : Checker) (b : Bool) (x y : Listed) → x ≡ y → ChecksAtOnce old new (meaning y) b → ChecksAtOnce old new (meaning x) b
as_listed old new b x y is = subst (λ o. ChecksAtOnce old new (meaning o) b) (sym is)
