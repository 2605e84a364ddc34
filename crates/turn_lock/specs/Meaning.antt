-- What a value under the lock means.
use Rattle.std.specs.Prelude.{◌≡◌, ℕ, List, [], ◌∷◌}

-- What a value of type S keeps, and how an entry of type E acts on that.
-- The value has a history: the entries that led from an opening to what it keeps. It also counts passes, and has a room for each
pub record Meaning (S E : Type 0) : Type 1 where
  -- what there is to keep
  pub Content : Type 0
  -- The value keeps this content. It is a relation: the content may be a function, and a part of it may be out of the value
  pub Keeps : S → Content → Type 0
  -- the entry may act on the first content, and then leaves the second
  pub Acts : Content → E → Content → Type 0
  -- the opening of every history in the lock that begins with this value
  pub opening : S → Content
  -- the value's entries, the oldest first
  pub history : S → List E
  -- the number of the pass whose entry it is
  pub number : E → ℕ
  -- how many passes were ever made
  pub made : S → ℕ
  -- how many passes are live, made and not yet taken in by another
  pub live : S → ℕ
  -- a number for each pass made, in the order of the passes' numbers
  pub rooms : S → List ℕ

module _ {S E : Type 0} (m : Meaning S E) where
  -- the entries act on the first content, one after another, and leave the last one
  abbrev pub Leads : m.Content → List E → m.Content → Type 0
  Leads a [] c = a ≡ c
  Leads a (e ∷ es) c = (b : m.Content) × m.Acts a e b × Leads b es c

  -- The value stands for this history in the lock that began with `first`:
  -- it is the value's history, and leads from the opening to what the value keeps
  pub record StandsFor (first value : S) (history : List E) : Type 0 where
    pub is : m.history value ≡ history
    pub content : m.Content
    pub leads : Leads (m.opening first) history content
    pub keeps : m.Keeps value content
