-- Declarations of locals, group by group.
use Rattle.std.proofs.Common.{◌≡◌, ◌<◌, ◌≤◌, ℕ, zero, suc, ◌+◌, add-one, List, [], ◌∷◌, ◌++◌, length, length-append, Option, Some, unwrap_or, replicate, Result, Ok, Err, OnOk, take, drop, ◌-◌, subst, refl, sym, ap, ◌∙◌, append_assoc, arith}
use Rattle.std.proofs.lemmas.List.{append-nil, length-replicate}
use Rattle.wasm_numbers.specs.Results.{◌>>=◌, each}
use Rattle.wasm_types.specs.declared.val_type.ValType.{ValType}
use Rattle.walrus_ir.specs.Types.{ModuleType}
use Rattle.wasm_numbers.proofs.ResultLemmas.{bind_ok, ok_same}
use Rattle.wasm_numbers.specs.Numbers.{u32}
use Rattle.wasm_operators.specs.Types.{value_type}
use Rattle.wasm_body.specs.Translation.{translate_value}
use Rattle.walrus_context.specs.Placing.{ids_at}
use Rattle.wasm_numbers.specs.Reading.{Reader, many}
use Rattle.wasm_numbers.proofs.Agreement.{ok_is}
use Rattle.walrus_maps.specs.declared.indices_to_ids.IndicesToIds.{IndicesToIds}
use Rattle.wasm_sections.proofs.Leaving.{groups_leave, dropped}
use Rattle.wasm_sections.specs.Declarations.{group, named_group, expanded, HaveLocals, HasNoLocals, max_locals, parameters_of_type, DeclaresGroup, HasNoGroup}

-- ---- one more after others

-- the next step after one that did not fail
bind_is : {A B E : Type 0} (r : Result A E) (f : A → Result B E) (x : A) (y : Result B E) → r ≡ Ok x → f x ≡ y → (r >>= f) ≡ y
bind_is r f x y e h = ap (λ q. q >>= f) e ∙ h

many_more :
    {A : Type 0} (one : Reader A) (n : ℕ) (bytes : List ℕ) (xs : List A) (following : List ℕ) (x : A) (rest : List ℕ) → many one n bytes ≡ Ok (xs, following) →
    one following ≡ Ok (x, rest) → many one (suc n) bytes ≡ Ok (xs ++ x ∷ [], rest)
unfolding many
many_more {A} one zero bytes xs following x rest h e =
    let both = ok_is ([], bytes) (xs, following) h in
    let here : one bytes ≡ Ok (x, rest) = ap (λ (p : List A × List ℕ). one p.1) both ∙ e in
    bind_is (one bytes) (λ first. many one zero first.1 >>= λ others. Ok (first.0 ∷ others.0, others.1)) (x, rest) (Ok (xs ++ x ∷ [], rest)) here
    (ap (λ (p : List A × List ℕ). Ok (p.0 ++ x ∷ [], rest)) both)
many_more {A} one (suc n) bytes xs following x rest h e =
    let a = bind_ok (one bytes) (λ first. many one n first.1 >>= λ others. Ok (first.0 ∷ others.0, others.1)) (xs, following) h in
    let b = bind_ok (many one n a.0.1) (λ others. Ok (a.0.0 ∷ others.0, others.1)) (xs, following) a.2 in
    let both = ok_is (a.0.0 ∷ b.0.0, b.0.1) (xs, following) b.2 in
    let here : many one n a.0.1 ≡ Ok (b.0.0, following) = b.1 ∙ ap (λ (p : List A × List ℕ). Ok (b.0.0, p.1)) both in
    let more = many_more one n a.0.1 b.0.0 following x rest here e in
    bind_is (one bytes) (λ first. many one (suc n) first.1 >>= λ others. Ok (first.0 ∷ others.0, others.1)) a.0 (Ok (xs ++ x ∷ [], rest)) a.1
    (bind_is (many one (suc n) a.0.1) (λ others. Ok (a.0.0 ∷ others.0, others.1)) (b.0.0 ++ x ∷ [], rest) (Ok (xs ++ x ∷ [], rest)) more
    (ap (λ (p : List A × List ℕ). Ok (p.0 ++ x ∷ [], rest)) both))

pub each_more : {A B E : Type 0} (f : A → Result B E) (xs : List A) (ys : List B) (x : A) (y : B) → each f xs ≡ Ok ys → f x ≡ Ok y → each f (xs ++ x ∷ []) ≡ Ok (ys ++ y ∷ [])
each_more {A} {B} f [] ys x y h e = bind_is (f x) (λ w. Ok (w ∷ [])) y (Ok (ys ++ y ∷ [])) e (ap (λ (l : List B). Ok (l ++ y ∷ [])) (ok_same [] ys h))
each_more {A} {B} f (z ∷ zs) ys x y h e =
    let a = bind_ok (f z) (λ w. each f zs >>= λ ws. Ok (w ∷ ws)) ys h in
    let b = bind_ok (each f zs) (λ ws. Ok (a.0 ∷ ws)) ys a.2 in
    let more = each_more f zs b.0 x y b.1 e in
    bind_is (f z) (λ w. each f (zs ++ x ∷ []) >>= λ ws. Ok (w ∷ ws)) a.0 (Ok (ys ++ y ∷ [])) a.1
    (bind_is (each f (zs ++ x ∷ [])) (λ ws. Ok (a.0 ∷ ws)) (b.0 ++ y ∷ []) (Ok (ys ++ y ∷ [])) more
    (ap (λ (l : List B). Ok (l ++ y ∷ [])) (ok_same (a.0 ∷ b.0) ys b.2)))

expanded_more : (gs : List (ℕ × ValType ℕ)) (g : ℕ × ValType ℕ) → expanded (gs ++ g ∷ []) ≡ expanded gs ++ replicate g.0 g.1
expanded_more [] g = append-nil (replicate g.0 g.1)
expanded_more (h ∷ gs) g = ap (λ (l : List (ValType ℕ)). replicate h.0 h.1 ++ l) (expanded_more gs g) ∙ sym (append_assoc (replicate h.0 h.1) (expanded gs) (replicate g.0 g.1))

-- ---- the first groups, which these bytes follow, and the locals with those that they declare

pub record DeclareSoFar (indices : IndicesToIds) (n : ℕ) (text now : List ℕ) (before types : List (ValType ℕ)) : Type 0 where
  pub declared : List (ℕ × ValType ℕ)
  pub are_read : many group n text ≡ Ok (declared, now)
  pub named : List (ℕ × ValType ℕ)
  pub are_named : each (named_group indices) declared ≡ Ok named
  pub types_are : types ≡ before ++ expanded named

pub none_declared : (indices : IndicesToIds) (text : List ℕ) (before types : List (ValType ℕ)) → types ≡ before → DeclareSoFar indices 0 text text before types
unfolding many
none_declared indices text before types e = record { declared = []; are_read = refl; named = []; are_named = refl; types_are = e ∙ sym (append-nil before) }

pub one_more_declared :
    (indices : IndicesToIds) (n : ℕ) (text now following : List ℕ) (before types more : List (ValType ℕ)) → DeclareSoFar indices n text now before types →
    DeclaresGroup indices now following types more → DeclareSoFar indices (n + 1) text following before more
one_more_declared indices n text now following before types more p g = record {
  declared = p.declared ++ g.declared ∷ [];
  are_read = rw add-one (many_more group n text p.declared now g.declared following p.are_read g.is_read);
  named = p.named ++ g.named ∷ [];
  are_named = each_more (named_group indices) p.declared p.named g.declared g.named p.are_named g.is_named;
  types_are =
      g.new_are ∙ ap (λ (l : List (ValType ℕ)). l ++ replicate g.named.0 g.named.1) p.types_are
      ∙ append_assoc before (expanded p.named) (replicate g.named.0 g.named.1)
      ∙ ap (λ (l : List (ValType ℕ)). before ++ l) (sym (expanded_more p.named g.named));
}

pub all_declared :
    (indices : IndicesToIds) (n : ℕ) (bytes text now : List ℕ) (before types : List (ValType ℕ)) → u32 bytes ≡ Ok (n, text) →
    DeclareSoFar indices n text now before types → HaveLocals indices before bytes now types
all_declared indices n bytes text now before types e p = record {
  declared = p.declared;
  are_read = rw e p.are_read;
  named = p.named;
  are_named = p.are_named;
  locals_are = p.types_are;
}

-- ---- one group

pub reads_group :
    (bytes typed following : List ℕ) (count : ℕ) (type : ValType ℕ) → u32 bytes ≡ Ok (count, typed) → value_type typed ≡ Ok (type, following) →
    group bytes ≡ Ok ((count, type), following)
reads_group bytes typed following count type e t =
    bind_is (u32 bytes) (λ x. value_type x.1 >>= λ y. Ok ((x.0, y.0), y.1)) (count, typed) (Ok ((count, type), following)) e
    (bind_is (value_type typed) (λ y. Ok ((count, y.0), y.1)) (type, following) (Ok ((count, type), following)) t refl)

pub names_group :
    (indices : IndicesToIds) (count : ℕ) (type named : ValType ℕ) → translate_value (ids_at indices) type ≡ Ok named →
    named_group indices (count, type) ≡ Ok (count, named)
names_group indices count type named e = bind_is (translate_value (ids_at indices) type) (λ t. Ok (count, t)) named (Ok (count, named)) e refl

pub on_ok_so : {A E P Q : Type 0} (r : Result A E) → OnOk r P → (P → Q) → OnOk r Q
on_ok_so (Ok x) p f = f p
on_ok_so (Err e) p f = tt

-- ---- the operators are what follows the declarations

pub operators_left :
    (indices : IndicesToIds) (parameters given : List (ValType ℕ)) (all rest before bytes : List ℕ) (locals : List (ValType ℕ)) → given ≡ parameters →
    HaveLocals indices given all rest locals → before ≡ take (length all - length rest) all → bytes ≡ all → HaveLocals indices parameters all (drop (length before) bytes) locals
operators_left indices parameters given all rest before bytes locals e have b s =
    let front = groups_leave all have.declared rest have.are_read in
    let operators : rest ≡ drop (length before) bytes = sym (rw (b, s) (dropped all front.0 rest front.1)) in
    subst (λ (left : List ℕ). HaveLocals indices parameters all left locals) operators (subst (λ (ps : List (ValType ℕ)). HaveLocals indices ps all rest locals) e have)

-- ---- if no more groups are declared

-- the item that follows some of those that are read
pub record NextRead {A : Type 0} (one : Reader A) (xs ys : List A) (following : List ℕ) : Type 0 where
  pub item : A
  pub others : List A
  pub rest : List ℕ
  pub is_read : one following ≡ Ok (item, rest)
  pub are : ys ≡ xs ++ item ∷ others

many_at :
    {A : Type 0} (one : Reader A) (k n : ℕ) (bytes : List ℕ) (xs : List A) (following : List ℕ) (ys : List A) (end : List ℕ) → k < n → many one k bytes ≡ Ok (xs, following) →
    many one n bytes ≡ Ok (ys, end) → NextRead one xs ys following
unfolding many
many_at {A} one k zero bytes xs following ys end less h e = absurd (omega arith)
many_at {A} one zero (suc n) bytes xs following ys end less h e =
    let before = ok_is ([], bytes) (xs, following) h in
    let a = bind_ok (one bytes) (λ first. many one n first.1 >>= λ others. Ok (first.0 ∷ others.0, others.1)) (ys, end) e in
    let b = bind_ok (many one n a.0.1) (λ others. Ok (a.0.0 ∷ others.0, others.1)) (ys, end) a.2 in
    let both = ok_is (a.0.0 ∷ b.0.0, b.0.1) (ys, end) b.2 in
    let none : xs ≡ [] = sym (ap (λ (p : List A × List ℕ). p.0) before) in
    record {
      item = a.0.0;
      others = b.0.0;
      rest = a.0.1;
      is_read = ap (λ (p : List A × List ℕ). one p.1) (sym before) ∙ a.1;
      are = sym (ap (λ (p : List A × List ℕ). p.0) both) ∙ ap (λ (l : List A). l ++ a.0.0 ∷ b.0.0) (sym none);
    }
many_at {A} one (suc k) (suc n) bytes xs following ys end less h e =
    let a = bind_ok (one bytes) (λ first. many one k first.1 >>= λ others. Ok (first.0 ∷ others.0, others.1)) (xs, following) h in
    let b = bind_ok (many one k a.0.1) (λ others. Ok (a.0.0 ∷ others.0, others.1)) (xs, following) a.2 in
    let before = ok_is (a.0.0 ∷ b.0.0, b.0.1) (xs, following) b.2 in
    let c = bind_ok (one bytes) (λ first. many one n first.1 >>= λ others. Ok (first.0 ∷ others.0, others.1)) (ys, end) e in
    let d = bind_ok (many one n c.0.1) (λ others. Ok (c.0.0 ∷ others.0, others.1)) (ys, end) c.2 in
    let all = ok_is (c.0.0 ∷ d.0.0, d.0.1) (ys, end) d.2 in
    let same = ok_is a.0 c.0 (sym a.1 ∙ c.1) in
    let here : many one n a.0.1 ≡ Ok d.0 = ap (λ (p : A × List ℕ). many one n p.1) same ∙ d.1 in
    let r = many_at one k n a.0.1 b.0.0 b.0.1 d.0.0 d.0.1 (omega arith) b.1 here in
    record {
      item = r.item;
      others = r.others;
      rest = r.rest;
      is_read = ap (λ (p : List A × List ℕ). one p.1) (sym before) ∙ r.is_read;
      are =
          sym (ap (λ (p : List A × List ℕ). p.0) all) ∙ ap (λ (p : A × List ℕ). p.0 ∷ d.0.0) (sym same) ∙ ap (λ (l : List A). a.0.0 ∷ l) r.are
          ∙ ap (λ (p : List A × List ℕ). p.0 ++ r.item ∷ r.others) before;
    }

-- the result for one of the items that are mapped
pub record NextMapped {A B E : Type 0} (f : A → Result B E) (x : A) (ys zs : List B) : Type 0 where
  pub item : B
  pub others : List B
  pub is_mapped : f x ≡ Ok item
  pub are : zs ≡ ys ++ item ∷ others

each_at :
    {A B E : Type 0} (f : A → Result B E) (xs : List A) (x : A) (more : List A) (ys zs : List B) → each f xs ≡ Ok ys → each f (xs ++ x ∷ more) ≡ Ok zs → NextMapped f x ys zs
each_at {A} {B} f [] x more ys zs h e =
    let a = bind_ok (f x) (λ w. each f more >>= λ ws. Ok (w ∷ ws)) zs e in
    let b = bind_ok (each f more) (λ ws. Ok (a.0 ∷ ws)) zs a.2 in
    let none = ok_same [] ys h in
    record { item = a.0; others = b.0; is_mapped = a.1; are = sym (ok_same (a.0 ∷ b.0) zs b.2) ∙ ap (λ (l : List B). l ++ a.0 ∷ b.0) none }
each_at {A} {B} f (z ∷ xs) x more ys zs h e =
    let a = bind_ok (f z) (λ w. each f xs >>= λ ws. Ok (w ∷ ws)) ys h in
    let b = bind_ok (each f xs) (λ ws. Ok (a.0 ∷ ws)) ys a.2 in
    let c = bind_ok (f z) (λ w. each f (xs ++ x ∷ more) >>= λ ws. Ok (w ∷ ws)) zs e in
    let d = bind_ok (each f (xs ++ x ∷ more)) (λ ws. Ok (c.0 ∷ ws)) zs c.2 in
    let r = each_at f xs x more b.0 d.0 b.1 d.1 in
    let same : c.0 ≡ a.0 = ok_same c.0 a.0 (sym c.1 ∙ a.1) in
    record {
      item = r.item;
      others = r.others;
      is_mapped = r.is_mapped;
      are =
          sym (ok_same (c.0 ∷ d.0) zs d.2) ∙ ap (λ (w : B). w ∷ d.0) same ∙ ap (λ (l : List B). a.0 ∷ l) r.are
          ∙ ap (λ (l : List B). l ++ r.item ∷ r.others) (ok_same (a.0 ∷ b.0) ys b.2);
    }

expanded_at : (gs : List (ℕ × ValType ℕ)) (g : ℕ × ValType ℕ) (more : List (ℕ × ValType ℕ)) → length (expanded gs) + g.0 ≤ length (expanded (gs ++ g ∷ more))
expanded_at [] g more =
    let both = length-append (replicate g.0 g.1) (expanded more) in
    let front = length-replicate g.0 g.1 in
    omega arith
expanded_at (h ∷ gs) g more =
    let rest = expanded_at gs g more in
    let some = length-append (replicate h.0 h.1) (expanded gs) in
    let all = length-append (replicate h.0 h.1) (expanded (gs ++ g ∷ more)) in
    omega arith

pub none_after :
    (indices : IndicesToIds) (k n : ℕ) (bytes text now : List ℕ) (before types : List (ValType ℕ)) (count : ℕ) → u32 bytes ≡ Ok (n, text) → k < n →
    DeclareSoFar indices k text now before types → count ≡ length types → HasNoGroup indices now count → HasNoLocals indices before bytes
none_after indices k n bytes text now before types count e less p is_count none = λ operators locals have.
    let are_read : many group n text ≡ Ok (have.declared, operators) =
    sym (bind_is (u32 bytes) (λ x. many group x.0 x.1) (n, text) (many group n text) e refl) ∙ have.are_read in
    let r = many_at group k n text p.declared now have.declared operators less p.are_read are_read in
    let named : each (named_group indices) (p.declared ++ r.item ∷ r.others) ≡ Ok have.named = ap (λ (l : List (ℕ × ValType ℕ)). each (named_group indices) l) (sym r.are) ∙ have.are_named in
    let m = each_at (named_group indices) p.declared r.item r.others p.named have.named p.are_named named in
    let too_many = none r.rest r.item m.item r.is_read m.is_mapped in
    let all = ap length have.locals_are ∙ length-append before (expanded have.named) in
    let so_far = ap length p.types_are ∙ length-append before (expanded p.named) in
    let longer = expanded_at p.named m.item m.others in
    let are = ap (λ (l : List (ℕ × ValType ℕ)). length (expanded l)) m.are in
    omega (arith, too_many, all, so_far, longer, are, is_count)

-- the same for a function of this type
pub none_of_type :
    (indices : IndicesToIds) (types : List ModuleType) (found : Option ℕ) (type : ℕ) (given : List (ValType ℕ)) (bytes : List ℕ) → found ≡ Some type →
    given ≡ parameters_of_type types type → HasNoLocals indices given bytes →
    (other : ℕ) (operators : List ℕ) (locals : List (ValType ℕ)) → found ≡ Some other → HaveLocals indices (parameters_of_type types other) bytes operators locals →
    max_locals < length locals
none_of_type indices types found type given bytes e g none other operators locals is have =
    let same : type ≡ other = ap (λ (o : Option ℕ). unwrap_or o 0) (sym e ∙ is) in
    none operators locals (subst (λ (ps : List (ValType ℕ)). HaveLocals indices ps bytes operators locals) (sym (g ∙ ap (λ (t : ℕ). parameters_of_type types t) same)) have)
