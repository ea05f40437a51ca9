-- What is wanted of a call, as the words of its `struct wrewrite_options` say it.
use Rattle.std.specs.Prelude.{◌≡◌, ◌<◌, ◌≤◌, ◌*◌, ℕ, List, length, nat_lt, get_or, Bool}
use Rattle.wrewrite_c.specs.declared.options.Options.{Options}

-- A word that isn't there is 0.
abbrev pub word_at : (words : List ℕ) → (at : ℕ) → ℕ
word_at words at = get_or words at 0

-- Each word but 0 turns a switch on.
abbrev pub is_on : (words : List ℕ) → (at : ℕ) → Bool
is_on words at = nat_lt 0 (word_at words at)

-- The first word is the number of bytes that all words take.
abbrev pub HasSize : (words : List ℕ) → Type 0
HasSize words = (0 < length words) × (word_at words 0 ≡ 4 * length words)

-- each word from this one on
abbrev pub AreZero : (words : List ℕ) → (first : ℕ) → Type 0
AreZero words first = (at : ℕ) → first ≤ at → word_at words at ≡ 0

abbrev pub HasSwitches : (words : List ℕ) → Options → Type 0
HasSwitches words o = (o.has_map ≡ is_on words 1) × (o.strips_debug ≡ is_on words 2) × (o.strips_all ≡ is_on words 3)

-- These words say what is wanted: their number, the switches, and nothing that this library doesn't know.
pub record AreOptions (words : List ℕ) (o : Options) : Type 0 where
  pub has_size : HasSize words
  pub switches : HasSwitches words o
  pub others : AreZero words 4
