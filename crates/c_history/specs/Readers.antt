-- The readers of the lines of a history, for private functions alone: lemmas tie them to the texts of `Text`.
use Rattle.std.specs.Prelude.{◌≡◌, ℕ, zero, suc, ◌+◌, ◌^◌, ◌==◌, ℤ, pos, negsuc, Bool, true, false, cond, List, ◌++◌, codes, take, drop, flat_map, Option, Some, None, Err, Ok}
use Rattle.std.specs.List.{prefix_len, AllByRecursion}
use Rattle.std.specs.Char.{is_ascii_lowercase}
use Rattle.std.specs.Str.{bytes_eq}
use Rattle.pl_readers.specs.declared.error.Stop.{Stop}
use Rattle.pl_readers.specs.Reader.{Reader, next, either, nothing, mapped, refuse}
use Rattle.pl_readers.specs.Bytes.{is, word, number}
use Rattle.pl_resource.specs.declared.value.Cell.{Cell}
use Rattle.pl_resource.specs.declared.value.Value.{Value}
use Rattle.pl_resource.specs.declared.value.Value.TheVariants as value
use Rattle.c_meaning.specs.declared.action.Action.{Action}
use Rattle.c_meaning.specs.declared.action.Action.TheVariants as act
use Rattle.c_meaning.specs.declared.action.Event.{Event}
use Rattle.c_history.specs.declared.verbs.Verb.{Verb}
use Rattle.c_history.specs.declared.verbs.Verb.TheVariants as verb
use Rattle.c_history.specs.Text.{event_line}
use Rattle.c_history.specs.Bounds.{IsEventWithin}

-- what P reads behind a word
abbrev pub behind : {A : Type 0} → List ℕ → Reader ℕ A → Reader ℕ A
behind w P = next (word w) (λ _. P)

-- what P reads and then what Q reads
abbrev pub pair : {A B : Type 0} → Reader ℕ A → Reader ℕ B → Reader ℕ (A × B)
pair P Q = next P (λ a. mapped (λ b. (a, b)) Q)

-- a number of 32 bits
unfoldable pub unsigned : Reader ℕ ℕ
unsigned = number (2 ^ 32)

-- minus that number, which isn't 0
abbrev pub negated : ℕ → Reader ℕ ℤ
negated zero xs = refuse xs
negated (suc n) xs = Ok (negsuc n, xs)

-- a number of 64 bits
unfoldable pub signed : Reader ℕ ℤ
signed = either (is 45) (behind (codes "-") (next (number (2 ^ 63 + 1)) negated)) (mapped pos (number (2 ^ 63)))

unfoldable pub truth : Reader ℕ Bool
truth = either (is 116) (mapped (λ _. true) (word (codes "true"))) (mapped (λ _. false) (word (codes "false")))

abbrev pub numbered : List ℕ → Reader ℕ ℕ
numbered w = behind w unsigned

unfoldable pub cell : Reader ℕ Cell
cell = mapped (λ p. record { block = p.0; index = p.1.0; field = p.1.1 }) (pair (numbered (codes "b")) (pair (numbered (codes ".")) (numbered (codes "."))))

unfoldable pub value_of : Reader ℕ Value
value_of =
    either (is 98) (mapped value.Block (numbered (codes "b")))
    (either (is 107) (mapped value.Lock (numbered (codes "k")))
    (either (is 110) (mapped (λ _. value.Null) (word (codes "null")))
    (either (is 116) (mapped value.Truth truth)
    (either (is 102) (mapped value.Truth truth)
    (mapped value.Int signed)))))

-- a cell and a value
unfoldable pub access : Reader ℕ (Cell × Value)
access = pair (behind (codes " ") cell) (behind (codes " ") value_of)

-- a cell, the number that was seen and whether it was stored
unfoldable pub swap : Reader ℕ (Cell × (ℤ × Bool))
swap = pair (behind (codes " ") cell) (pair (behind (codes " ") signed) (behind (codes " ") truth))

-- a block and the count of its elements
unfoldable pub made : Reader ℕ (ℕ × ℕ)
made = pair (numbered (codes " b")) (numbered (codes " "))

abbrev pub done : Unit {0}
done = tt

-- the verb that a word is
unfoldable pub verb_of : List ℕ → Option Verb
verb_of word =
    cond (bytes_eq word (codes "freelock")) (Some verb.FreeLock)
    (cond (bytes_eq word (codes "newlock")) (Some verb.NewLock)
    (cond (bytes_eq word (codes "acquire")) (Some verb.Acquire)
    (cond (bytes_eq word (codes "release")) (Some verb.Release)
    (cond (bytes_eq word (codes "return")) (Some verb.Return)
    (cond (bytes_eq word (codes "print")) (Some verb.Print)
    (cond (bytes_eq word (codes "store")) (Some verb.Store)
    (cond (bytes_eq word (codes "alloc")) (Some verb.Alloc)
    (cond (bytes_eq word (codes "load")) (Some verb.Load)
    (cond (bytes_eq word (codes "cas")) (Some verb.Cas)
    (cond (bytes_eq word (codes "free")) (Some verb.Free)
    (cond (bytes_eq word (codes "fork")) (Some verb.Fork)
    (cond (bytes_eq word (codes "join")) (Some verb.Join)
    (cond (bytes_eq word (codes "read")) (Some verb.Read)
    (cond (bytes_eq word (codes "turn")) (Some verb.Turn)
    (cond (bytes_eq word (codes "call")) (Some verb.Call)
    None)))))))))))))))

-- what stands behind a verb
unfoldable pub arguments : Verb → Reader ℕ Action
arguments verb.Load xs = mapped (λ p. act.Load p.0 p.1) access xs
arguments verb.Store xs = mapped (λ p. act.Store p.0 p.1) access xs
arguments verb.Cas xs = mapped (λ p. act.Cas p.0 p.1.0 p.1.1) swap xs
arguments verb.Alloc xs = mapped (λ p. act.Alloc p.0 p.1) made xs
arguments verb.Free xs = mapped act.Free (numbered (codes " b")) xs
arguments verb.NewLock xs = mapped act.NewLock (numbered (codes " k")) xs
arguments verb.Acquire xs = mapped act.Acquire (numbered (codes " k")) xs
arguments verb.Release xs = mapped act.Release (numbered (codes " k")) xs
arguments verb.FreeLock xs = mapped act.FreeLock (numbered (codes " k")) xs
arguments verb.Fork xs = mapped act.Fork (numbered (codes " ")) xs
arguments verb.Join xs = mapped act.Join (numbered (codes " ")) xs
arguments verb.Print xs = mapped act.Print (behind (codes " ") signed) xs
arguments verb.Read xs = mapped act.Read (behind (codes " ") signed) xs
arguments verb.Turn xs = mapped (λ _. act.Turn) (nothing done) xs
arguments verb.Call xs = mapped act.Call (numbered (codes " ")) xs
arguments verb.Return xs = mapped (λ _. act.Return) (nothing done) xs

abbrev pub behind_verb : Option Verb → Reader ℕ Action
behind_verb (Some v) xs = arguments v xs
behind_verb None xs = refuse xs

-- how many lower letters stand in front
abbrev pub verb_len : List ℕ → ℕ
verb_len xs = prefix_len is_ascii_lowercase xs

unfoldable pub action : Reader ℕ Action
action xs = behind_verb (verb_of (take (verb_len xs) xs)) (drop (verb_len xs) xs)

-- the line of an event
unfoldable pub line : Reader ℕ Event
line = mapped (λ p. record { tid = p.0; action = p.1.0 }) (pair unsigned (pair (behind (codes " ") action) (word (codes "\n"))))

-- that number, and the end of the line
abbrev pub counted : ℕ → ℕ → Reader ℕ (Unit {0})
counted count n xs = cond (n == count) (word (codes "\n") xs) (refuse xs)

-- the last line
unfoldable pub last : ℕ → Reader ℕ (Unit {0})
last count = next (numbered (codes "end ")) (counted count)

-- lines of events, and behind them no more
pub record AreLines (bytes : List ℕ) (events : List Event) (rest : List ℕ) : Type 0 where
  pub parts : bytes ≡ flat_map event_line events ++ rest
  pub within : AllByRecursion IsEventWithin events
  pub stop : Stop
  pub ends : line rest ≡ Err stop
