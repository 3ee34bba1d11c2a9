-- An answer as definitions speak of it: it gives a value, or refuses with a number of the paper's table.
use Rattle.std.specs.Prelude.{ℕ, Bool, true, false}

pub data Outcome (A : Type 0) : Type 0 where
  gives : A → Outcome A
  refuses : ℕ → Outcome A

-- refused with n where the test holds, and otherwise what comes next: an order of checks is a chain of these
unfoldable pub refuse_if : {A : Type 0} → Bool → ℕ → Outcome A → Outcome A
refuse_if true n next = refuses n
refuse_if false n next = next

-- one thing where a value is given, another where it is refused
unfoldable pub if_given : {A B : Type 0} → Outcome A → (A → B) → B → B
if_given (gives a) f other = f a
if_given (refuses n) f other = other

-- what is given, changed; a refusal stays
unfoldable pub mapped : {A B : Type 0} → (A → B) → Outcome A → Outcome B
mapped f (gives a) = gives (f a)
mapped f (refuses n) = refuses n
