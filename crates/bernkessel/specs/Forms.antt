-- What ties a function of C to the library's: it hands over the C form of an answer that the library's promise allows.
use Rattle.std.specs.Prelude.{◌≡◌}

pub record Form {A B : Type 0} (allowed : A → Type 0) (out : A → B) (r : B) : Type 0 where
  pub answer : A
  pub kept : allowed answer
  pub handed : r ≡ out answer
