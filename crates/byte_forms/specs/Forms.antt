-- Forms of bytes. A form says how values stand in bytes, and is told once for reading and for writing. Small forms are the fields, and the
-- others are put together of them.
use Rattle.std.specs.Prelude.{ℕ, zero, suc, ◌≡◌, ◌<◌, ◌^◌, Bool, true, false, IsTrue, ◌==◌, nat_lt, if◌then◌else◌, List, [], ◌∷◌, ◌++◌, length, get_or, take, drop, Option, Some, None, Result, Ok, Err}
use Rattle.std.specs.Int.{Width, w16, w32, w64, byte_len, from_le_bytes, to_le_bytes}

pub record Form (A : Type 0) : Type 1 where
  -- the value at the front and the bytes after it, or how many bytes are left at the first byte of the first field that is wrong or cut
  pub read : List ℕ → Result (A × List ℕ) ℕ
  pub write : A → List ℕ
  -- which values have the form
  pub Holds : A → Type 0

infixl 10 ◌>>=◌
abbrev pub ◌>>=◌ : {A B : Type 0} → Result A ℕ → (A → Result B ℕ) → Result B ℕ
(Ok x) >>= f = f x
(Err left) >>= f = Err left

-- ---- fields

-- one byte
unfoldable pub read_byte : List ℕ → Result (ℕ × List ℕ) ℕ
read_byte [] = Err 0
read_byte (b ∷ rest) = Ok (b, rest)

abbrev pub byte : Form ℕ
byte = record { read = read_byte; write = λ b. b ∷ []; Holds = λ b. b < 256 }

-- so many bytes as one field
unfoldable pub read_bytes : ℕ → List ℕ → Result (List ℕ × List ℕ) ℕ
read_bytes n bytes = if nat_lt (length bytes) n then Err (length bytes) else Ok (take n bytes, drop n bytes)

abbrev pub AreBytes : List ℕ → Type 0
AreBytes bytes = (i : ℕ) → get_or bytes i 0 < 256

abbrev pub bytes : ℕ → Form (List ℕ)
bytes n = record { read = read_bytes n; write = λ xs. xs; Holds = λ xs. (length xs ≡ n) × AreBytes xs }

-- a number of a width, its low byte first
unfoldable pub read_number : Width → List ℕ → Result (ℕ × List ℕ) ℕ
read_number w bytes = do
  x ← read_bytes (byte_len w) bytes
  Ok (from_le_bytes w x.0, x.1)

abbrev pub number : Width → Form ℕ
number w = record { read = read_number w; write = to_le_bytes w; Holds = λ n. n < 256 ^ byte_len w }

abbrev pub half : Form ℕ
half = number w16

abbrev pub word : Form ℕ
word = number w32

abbrev pub long : Form ℕ
long = number w64

-- ---- forms of forms

-- a form with a fact, refused at its first byte
abbrev pub where_is : {A : Type 0} → Form A → (A → Bool) → Form A
where_is f fact = record {
  read = λ bytes. f.read bytes >>= λ x. if fact x.0 then Ok x else Err (length bytes);
  write = f.write;
  Holds = λ a. f.Holds a × IsTrue (fact a);
}

-- one form after another, which may ask for the value of the first
abbrev pub both : {A B : Type 0} → Form A → (A → Form B) → Form (A × B)
both f g = record {
  read = λ bytes. f.read bytes >>= λ x. (g x.0).read x.1 >>= λ y. Ok ((x.0, y.0), y.1);
  write = λ p. f.write p.0 ++ (g p.0).write p.1;
  Holds = λ p. f.Holds p.0 × (g p.0).Holds p.1;
}

-- the values of a form as those of another type
abbrev pub seen_as : {A B : Type 0} → Form A → (A → B) → (B → A) → Form B
seen_as f to from = record {
  read = λ bytes. f.read bytes >>= λ x. Ok (to x.0, x.1);
  write = λ b. f.write (from b);
  Holds = λ b. f.Holds (from b);
}

-- the same of a type that has other values too, which have no form
abbrev pub told_by : {A B : Type 0} → Form A → (A → B) → (B → A) → Form B
told_by f to from = record {
  read = λ bytes. f.read bytes >>= λ x. Ok (to x.0, x.1);
  write = λ b. f.write (from b);
  Holds = λ b. f.Holds (from b) × (to (from b) ≡ b);
}

-- a number below a limit
abbrev pub below : Form ℕ → ℕ → Form ℕ
below f limit = where_is f (λ n. nat_lt n limit)

abbrev pub flag_of : ℕ → Bool
flag_of b = b == 1

abbrev pub byte_of_flag : Bool → ℕ
byte_of_flag there = if there then 1 else 0

-- 0 or 1
abbrev pub flag : Form Bool
flag = seen_as (below byte 2) flag_of byte_of_flag

abbrev pub option_of : Bool × ℕ → Option ℕ
option_of p = if p.0 then Some p.1 else None

abbrev pub flag_and_value : Option ℕ → Bool × ℕ
flag_and_value None = (false, 0)
flag_and_value (Some n) = (true, n)

-- A flag and a value with a fact, which is 0 where the flag is 0. What is written does not ask for the fact.
abbrev pub option : Form ℕ → (ℕ → Bool) → Form (Option ℕ)
option f fact = seen_as (both flag (λ there. where_is f (λ n. if there then fact n else n == 0))) option_of flag_and_value

-- the fact that every number has
abbrev pub any : ℕ → Bool
any n = true

-- the same with a value below a limit
abbrev pub option_below : Form ℕ → ℕ → Form (Option ℕ)
option_below f limit = option f (λ n. nat_lt n limit)

-- ---- lists

-- `before` and as many elements after it, each of which may ask for those before it
unfoldable pub read_chain : {A : Type 0} → (List A → Form A) → ℕ → List A → List ℕ → Result (List A × List ℕ) ℕ
read_chain form zero before bytes = Ok (before, bytes)
read_chain form (suc n) before bytes = do
  x ← (form before).read bytes
  read_chain form n (before ++ x.0 ∷ []) x.1

-- the bytes of the elements that stand after `before`
unfoldable pub write_chain : {A : Type 0} → (List A → Form A) → List A → List A → List ℕ
write_chain form before [] = []
write_chain form before (x ∷ xs) = (form before).write x ++ write_chain form (before ++ x ∷ []) xs

unfoldable pub HoldInChain : {A : Type 0} → (List A → Form A) → List A → List A → Type 0
HoldInChain form before [] = Unit {0}
HoldInChain form before (x ∷ xs) = (form before).Holds x × HoldInChain form (before ++ x ∷ []) xs

-- so many elements, each of which may ask for those before it. Their number is its place
abbrev pub chain : {A : Type 0} → ℕ → (List A → Form A) → Form (List A)
chain n form = record {
  read = read_chain form n [];
  write = write_chain form [];
  Holds = λ xs. (length xs ≡ n) × HoldInChain form [] xs;
}

-- so many elements of a form
abbrev pub repeat : {A : Type 0} → ℕ → Form A → Form (List A)
repeat n form = chain n (λ before. form)

abbrev pub with_length : {A : Type 0} → List A → ℕ × List A
with_length xs = (length xs, xs)

abbrev pub the_list : {A : Type 0} → ℕ × List A → List A
the_list p = p.1

-- a list after how many it has
abbrev pub counted : {A : Type 0} → Form ℕ → (ℕ → Form (List A)) → Form (List A)
counted count form = seen_as (both count form) the_list with_length

-- ---- the whole of the bytes

-- A form that is all of the bytes. Bytes that are left are wrong at the first of them.
abbrev pub read_whole : {A : Type 0} → Form A → List ℕ → Result A ℕ
read_whole f bytes = f.read bytes >>= λ x. if length x.1 == 0 then Ok x.0 else Err (length x.1)
