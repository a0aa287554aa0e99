-- Languages: which texts stand for a value. A format is a language, written with these words.
use Rattle.std.specs.Prelude.{◌≡◌, ◌⊎◌, Bool, true, List, [], ◌∷◌, ◌++◌, Option, Some}

-- which texts, as lists of symbols, stand for a value
abbrev pub Language : Type 0 → Type 0 → Type 1
Language S A = A → List S → Type 0

-- one symbol, from which f makes the value
abbrev pub One : {S A : Type 0} → (S → Option A) → Language S A
One {S} f a text = (x : S) × (text ≡ x ∷ []) × (f x ≡ Some a)

-- a text of the first, and behind it a text of what its value calls for
abbrev pub Then : {S A B : Type 0} → Language S A → (A → Language S B) → Language S B
Then {S} {A} T U b text = (a : A) × (front back : List S) × T a front × U a b back × (text ≡ front ++ back)

-- a text of the one or of the other
abbrev pub Either : {S A : Type 0} → Language S A → Language S A → Language S A
Either T U a text = T a text ⊎ U a text

-- no symbol, for this value
abbrev pub Nothing : {S A : Type 0} → A → Language S A
Nothing d a text = (text ≡ []) × (a ≡ d)

-- no text at all
abbrev pub Void : {S A : Type 0} → Language S A
Void a text = ⊥

-- a text, whose value f changes
abbrev pub Mapped : {S A B : Type 0} → (A → B) → Language S A → Language S B
Mapped {S} {A} f T b text = (a : A) × T a text × (b ≡ f a)

-- any number of texts, one behind the other
abbrev pub Many : {S A : Type 0} → Language S A → Language S (List A)
Many T [] text = text ≡ []
Many {S} T (a ∷ as') text = (front back : List S) × T a front × Many T as' back × (text ≡ front ++ back)

-- this text begins some text of the language
abbrev pub IsViable : {S A : Type 0} → Language S A → List S → Type 0
IsViable {S} {A} T text = (more : List S) × (a : A) × T a (text ++ more)

-- there is a text
abbrev pub HasText : {S A : Type 0} → Language S A → Type 0
HasText {S} {A} T = (a : A) × (text : List S) × T a text

-- each text begins with a symbol that passes the test
abbrev pub Starts : {S A : Type 0} → (S → Bool) → Language S A → Type 0
Starts {S} {A} test T = (a : A) (text : List S) → T a text → (x : S) × (xs : List S) × (text ≡ x ∷ xs) × (test x ≡ true)
