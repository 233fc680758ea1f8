-- A form: how the values of a type stand in bytes. `write` has the bytes of a value, `read` reads one from the front of some bytes, `Good`
-- says which values have bytes. Forms are put together from smaller ones.
use Rattle.std.specs.Prelude.{◌≡◌, List, [], ◌∷◌, ◌++◌, Bool, true, cond, ℕ, zero, suc, ◌/◌, ◌%◌, ◌^◌, ◌<◌, ltb, length, take, drop}
use Rattle.encoding.specs.Bytes.{low_first}
use Rattle.forms.specs.Groups.{groups_of, read_groups}
use Rattle.forms.specs.Read.{Read, got, bad, after}

pub record Form (A : Type 0) : Type 1 where
  pub Good : A → Type 0
  pub write : A → List ℕ
  pub read : List ℕ → Read A

-- a number in at most three groups
abbrev pub groups : Form ℕ
groups = record { Good = λ n. n < 128 ^ 3; write = groups_of 3; read = read_groups 3 }

-- a number of k bytes, low byte first
unfoldable pub low_bytes : ℕ → ℕ → List ℕ
low_bytes zero n = []
low_bytes (suc k) n = n % 256 ∷ low_bytes k (n / 256)

unfoldable pub read_bytes : ℕ → List ℕ → Read ℕ
read_bytes k l = cond (ltb (length l) k) bad (got (low_first (take k l)) (drop k l))

abbrev pub bytes : ℕ → Form ℕ
bytes k = record { Good = λ n. n < 256 ^ k; write = low_bytes k; read = read_bytes k }

-- two values, one after the other; the form of the second may depend on the first
pub record Both (A : Type 0) (B : A → Type 0) : Type 0 where
  pub first : A
  pub second : B first

abbrev pub then : {A : Type 0} {B : A → Type 0} → Form A → ((a : A) → Form (B a)) → Form (Both A B)
then F G = record {
  Good = λ p. F.Good p.first × (G p.first).Good p.second;
  write = λ p. F.write p.first ++ (G p.first).write p.second;
  read = λ l. after (F.read l) (λ a r. after ((G a).read r) (λ b s. got (record { first = a; second = b }) s));
}

-- n values of one form, one after the other
abbrev pub all_good : {A : Type 0} → Form A → ℕ → List A → Type 0
all_good F zero [] = Unit
all_good F zero (a ∷ vs) = ⊥
all_good F (suc n) [] = ⊥
all_good F (suc n) (a ∷ vs) = F.Good a × all_good F n vs

abbrev pub write_all : {A : Type 0} → Form A → List A → List ℕ
write_all F [] = []
write_all F (a ∷ vs) = F.write a ++ write_all F vs

abbrev pub read_all : {A : Type 0} → Form A → ℕ → List ℕ → Read (List A)
read_all F zero l = got [] l
read_all F (suc n) l = after (F.read l) (λ a r. after (read_all F n r) (λ vs s. got (a ∷ vs) s))

abbrev pub many : {A : Type 0} → Form A → ℕ → Form (List A)
many F n = record { Good = all_good F n; write = write_all F; read = read_all F n }

-- only the values that pass a test
abbrev pub such_that : {A : Type 0} → Form A → (A → Bool) → Form A
such_that F test = record {
  Good = λ a. F.Good a × (test a ≡ true);
  write = F.write;
  read = λ l. after (F.read l) (λ a r. cond (test a) (got a r) bad);
}

-- the same bytes for the values of another type, one for each
abbrev pub through : {A B : Type 0} → (A → B) → (B → A) → Form A → Form B
through to from F = record {
  Good = λ b. F.Good (from b);
  write = λ b. F.write (from b);
  read = λ l. after (F.read l) (λ a r. got (to a) r);
}

-- all of the bytes: nothing is left over
abbrev pub no_rest : {A : Type 0} → A → List ℕ → Read A
no_rest a [] = got a []
no_rest a (b ∷ l) = bad

abbrev pub read_whole : {A : Type 0} → Form A → List ℕ → Read A
read_whole F l = after (F.read l) no_rest
