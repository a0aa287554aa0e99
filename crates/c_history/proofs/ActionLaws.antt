-- The readers of actions and lines take exactly their texts.
use Rattle.std.proofs.Common.{◌≡◌, ◌∙◌, sym, ap, subst, refl, ℕ, ℤ, ◌+◌, ◌==◌, Bool, true, false, cond, List, [], ◌∷◌, ◌++◌, Option, Some, None, Ok, take, drop, append_assoc}
use Rattle.std.specs.Prelude.{codes, FitsSigned}
use Rattle.std.specs.Char.{is_ascii_lowercase}
use Rattle.std.specs.Fmt.{decimal, signed_decimal}
use Rattle.std.specs.Int.{w64}
use Rattle.std.specs.Str.{bytes_eq, IsUtf8}
use lib.Utf8.{encode}
use Rattle.std.specs.List.{list_all}
use Rattle.std.proofs.lemmas.Bool.{and_parts, eqb-true, eq-eqb}
use Rattle.std.proofs.lemmas.List.{take-append-drop}
use Rattle.std.proofs.Math.Numerals.{one-add}
use Rattle.pl_readers.specs.Reader.{Reader, nothing, mapped, refuse}
use Rattle.pl_readers.specs.Reads.{Ends}
use Rattle.pl_readers.specs.Bytes.{word}
use Rattle.pl_readers.proofs.Correct.{bind_ok, fine_is}
use Rattle.pl_readers.proofs.Exact.{word_takes}
use Rattle.pl_resource.specs.declared.value.Cell.{Cell}
use Rattle.pl_resource.specs.declared.value.Value.{Value}
use Rattle.c_meaning.specs.declared.action.Action.{Action}
use Rattle.c_meaning.specs.declared.action.Action.TheVariants as act
use Rattle.c_meaning.specs.declared.action.Event.{Event}
use Rattle.c_history.specs.Text.{truth_text, cell_text, value_text, action_text, event_line, last_line}
use Rattle.c_history.specs.Bounds.{IsU32, IsCellWithin, IsValueWithin, IsActionWithin, IsEventWithin}
use Rattle.c_history.specs.Readers.{behind, pair, unsigned, signed, truth, numbered, cell, value_of, access, swap, made, done, verb_of, arguments, behind_verb, verb_len, action, line, counted, last}
use Rattle.c_history.specs.declared.verbs.Verb.{Verb}
use Rattle.c_history.specs.declared.verbs.Verb.TheVariants as verb
use Rattle.c_history.proofs.Exactly.{Exact, always, exact_behind, exact_pair, exact_unsigned, exact_numbered, exact_signed, exact_truth, exact_cell, exact_value, found_mapped, takes_mapped, exact_word, Found, found_behind, found_pair}

abbrev spaced_cell : Cell → List ℕ
spaced_cell c = codes " " ++ cell_text c

abbrev spaced_value : Value → List ℕ
spaced_value v = codes " " ++ value_text v

abbrev access_text : Cell × Value → List ℕ
access_text p = spaced_cell p.0 ++ spaced_value p.1

abbrev IsAccess : Cell × Value → Type 0
IsAccess p = IsCellWithin p.0 × IsValueWithin p.1

exact_access : Exact access_text IsAccess access
unfolding access
exact_access = exact_pair spaced_cell IsCellWithin (behind (codes " ") cell) (exact_behind cell_text IsCellWithin cell exact_cell (codes " ")) spaced_value IsValueWithin (behind (codes " ") value_of) (exact_behind value_text IsValueWithin value_of exact_value (codes " ")) (λ v rest. refl)

abbrev spaced_signed : ℤ → List ℕ
spaced_signed n = codes " " ++ signed_decimal n

abbrev spaced_truth : Bool → List ℕ
spaced_truth b = codes " " ++ truth_text b

abbrev seen_text : ℤ × Bool → List ℕ
seen_text p = spaced_signed p.0 ++ spaced_truth p.1

abbrev IsSeen : ℤ × Bool → Type 0
IsSeen p = FitsSigned w64 p.0 × always p.1

exact_spaced_signed : Exact spaced_signed (FitsSigned w64) (behind (codes " ") signed)
exact_spaced_signed = exact_behind signed_decimal (FitsSigned w64) signed exact_signed (codes " ")

exact_seen : Exact seen_text IsSeen (pair (behind (codes " ") signed) (behind (codes " ") truth))
exact_seen = exact_pair spaced_signed (FitsSigned w64) (behind (codes " ") signed) exact_spaced_signed spaced_truth always (behind (codes " ") truth) (exact_behind truth_text always truth exact_truth (codes " ")) (λ b rest. refl)

abbrev swap_text : Cell × (ℤ × Bool) → List ℕ
swap_text p = spaced_cell p.0 ++ seen_text p.1

abbrev IsSwap : Cell × (ℤ × Bool) → Type 0
IsSwap p = IsCellWithin p.0 × IsSeen p.1

exact_swap : Exact swap_text IsSwap swap
unfolding swap
exact_swap = exact_pair spaced_cell IsCellWithin (behind (codes " ") cell) (exact_behind cell_text IsCellWithin cell exact_cell (codes " ")) seen_text IsSeen (pair (behind (codes " ") signed) (behind (codes " ") truth)) exact_seen (λ p rest. refl)

abbrev block_text : ℕ → List ℕ
block_text n = codes " b" ++ decimal n

abbrev spaced_number : ℕ → List ℕ
spaced_number n = codes " " ++ decimal n

abbrev made_text : ℕ × ℕ → List ℕ
made_text p = block_text p.0 ++ spaced_number p.1

abbrev IsMade : ℕ × ℕ → Type 0
IsMade p = IsU32 p.0 × IsU32 p.1

exact_made : Exact made_text IsMade made
unfolding made
exact_made = exact_pair block_text IsU32 (numbered (codes " b")) (exact_numbered (codes " b")) spaced_number IsU32 (numbered (codes " ")) (exact_numbered (codes " ")) (λ n rest. refl)

exact_nothing : Exact (λ (u : Unit {0}). []) always (nothing done)
exact_nothing = record {
  found = λ xs u rest e. (tt, ap (λ (w : Unit {0} × List ℕ). w.1) (fine_is (done, xs) (u, rest) e));
  takes = λ u rest f ends. refl;
}

-- ---- verbs

-- a verb and what stands behind it is an action and the rest
abbrev ActionFound : List ℕ → List ℕ → Action → List ℕ → Type 0
ActionFound verb xs a rest = IsActionWithin a × (verb ++ xs ≡ action_text a ++ rest)

verb_is : (verb s : List ℕ) → bytes_eq verb s ≡ true → verb ≡ s
verb_is [] [] e = refl
verb_is [] (c ∷ s) e = absurd cc
verb_is (c ∷ verb) [] e = absurd cc
verb_is (c ∷ verb) (d ∷ s) e =
    let p = and_parts (c == d) (bytes_eq verb s) e in
    ap (λ (x : ℕ). x ∷ verb) (eqb-true c d p.0) ∙ ap (λ (xs : List ℕ). d ∷ xs) (verb_is verb s p.1)

abbrev verb_text : Verb → List ℕ
verb_text verb.Load = codes "load"
verb_text verb.Store = codes "store"
verb_text verb.Cas = codes "cas"
verb_text verb.Alloc = codes "alloc"
verb_text verb.Free = codes "free"
verb_text verb.NewLock = codes "newlock"
verb_text verb.Acquire = codes "acquire"
verb_text verb.Release = codes "release"
verb_text verb.FreeLock = codes "freelock"
verb_text verb.Fork = codes "fork"
verb_text verb.Join = codes "join"
verb_text verb.Print = codes "print"
verb_text verb.Read = codes "read"
verb_text verb.Turn = codes "turn"
verb_text verb.Call = codes "call"
verb_text verb.Return = codes "return"

some_verb : (x y : Verb) → Some x ≡ Some y → x ≡ y
some_verb x y e = cc

found_verb : (word s : List ℕ) (x : Verb) (q : Option Verb) (v : Verb) (b : Bool) → bytes_eq word s ≡ b → s ≡ verb_text x → (q ≡ Some v → word ≡ verb_text v) → cond b (Some x) q ≡ Some v → word ≡ verb_text v
found_verb word s x q v true is text f e = verb_is word s is ∙ text ∙ ap verb_text (some_verb x v e)
found_verb word s x q v false is text f e = f e

access_regroup : (w z a b rest : List ℕ) → w ++ (((z ++ a) ++ (z ++ b)) ++ rest) ≡ (w ++ z ++ a ++ z ++ b) ++ rest
access_regroup w z a b rest = simp append_assoc

swap_regroup : (w z a b d rest : List ℕ) → w ++ (((z ++ a) ++ ((z ++ b) ++ (z ++ d))) ++ rest) ≡ (w ++ z ++ a ++ z ++ b ++ z ++ d) ++ rest
swap_regroup w z a b d rest = simp append_assoc

load_text : (c : Cell) (v : Value) (rest : List ℕ) → codes "load" ++ (access_text (c, v) ++ rest) ≡ action_text (act.Load c v) ++ rest
load_text c v rest = access_regroup (codes "load") (codes " ") (cell_text c) (value_text v) rest

store_text : (c : Cell) (v : Value) (rest : List ℕ) → codes "store" ++ (access_text (c, v) ++ rest) ≡ action_text (act.Store c v) ++ rest
store_text c v rest = access_regroup (codes "store") (codes " ") (cell_text c) (value_text v) rest

cas_text : (c : Cell) (n : ℤ) (b : Bool) (rest : List ℕ) → codes "cas" ++ (swap_text (c, (n, b)) ++ rest) ≡ action_text (act.Cas c n b) ++ rest
cas_text c n b rest = swap_regroup (codes "cas") (codes " ") (cell_text c) (signed_decimal n) (truth_text b) rest

alloc_text : (b n : ℕ) (rest : List ℕ) → codes "alloc" ++ (made_text (b, n) ++ rest) ≡ action_text (act.Alloc b n) ++ rest
alloc_text b n rest = simp append_assoc

free_text : (n : ℕ) (rest : List ℕ) → codes "free" ++ ((codes " b" ++ decimal n) ++ rest) ≡ action_text (act.Free n) ++ rest
free_text n rest = simp append_assoc

newlock_text : (n : ℕ) (rest : List ℕ) → codes "newlock" ++ ((codes " k" ++ decimal n) ++ rest) ≡ action_text (act.NewLock n) ++ rest
newlock_text n rest = simp append_assoc

acquire_text : (n : ℕ) (rest : List ℕ) → codes "acquire" ++ ((codes " k" ++ decimal n) ++ rest) ≡ action_text (act.Acquire n) ++ rest
acquire_text n rest = simp append_assoc

release_text : (n : ℕ) (rest : List ℕ) → codes "release" ++ ((codes " k" ++ decimal n) ++ rest) ≡ action_text (act.Release n) ++ rest
release_text n rest = simp append_assoc

freelock_text : (n : ℕ) (rest : List ℕ) → codes "freelock" ++ ((codes " k" ++ decimal n) ++ rest) ≡ action_text (act.FreeLock n) ++ rest
freelock_text n rest = simp append_assoc

fork_text : (n : ℕ) (rest : List ℕ) → codes "fork" ++ ((codes " " ++ decimal n) ++ rest) ≡ action_text (act.Fork n) ++ rest
fork_text n rest = simp append_assoc

join_text : (n : ℕ) (rest : List ℕ) → codes "join" ++ ((codes " " ++ decimal n) ++ rest) ≡ action_text (act.Join n) ++ rest
join_text n rest = simp append_assoc

print_text : (n : ℤ) (rest : List ℕ) → codes "print" ++ ((codes " " ++ signed_decimal n) ++ rest) ≡ action_text (act.Print n) ++ rest
print_text n rest = simp append_assoc

read_text : (n : ℤ) (rest : List ℕ) → codes "read" ++ ((codes " " ++ signed_decimal n) ++ rest) ≡ action_text (act.Read n) ++ rest
read_text n rest = simp append_assoc

turn_text : (rest : List ℕ) → codes "turn" ++ ([] ++ rest) ≡ action_text (act.Turn) ++ rest
turn_text rest = refl

call_text : (n : ℕ) (rest : List ℕ) → codes "call" ++ ((codes " " ++ decimal n) ++ rest) ≡ action_text (act.Call n) ++ rest
call_text n rest = simp append_assoc

return_text : (rest : List ℕ) → codes "return" ++ ([] ++ rest) ≡ action_text (act.Return) ++ rest
return_text rest = refl

module _ (xs : List ℕ) (a : Action) (rest : List ℕ) where
  load_found : mapped (λ p. act.Load p.0 p.1) access xs ≡ Ok (a, rest) → ActionFound (codes "load") xs a rest
  load_found e =
      let m = found_mapped access_text IsAccess access exact_access.found (λ p. act.Load p.0 p.1) xs a rest e in
      subst (λ (w : Action). ActionFound (codes "load") xs w rest) m.is ((m.fits.0, m.fits.1), ap (λ (s : List ℕ). codes "load" ++ s) m.parts ∙ load_text m.from.0 m.from.1 rest)

  store_found : mapped (λ p. act.Store p.0 p.1) access xs ≡ Ok (a, rest) → ActionFound (codes "store") xs a rest
  store_found e =
      let m = found_mapped access_text IsAccess access exact_access.found (λ p. act.Store p.0 p.1) xs a rest e in
      subst (λ (w : Action). ActionFound (codes "store") xs w rest) m.is ((m.fits.0, m.fits.1), ap (λ (s : List ℕ). codes "store" ++ s) m.parts ∙ store_text m.from.0 m.from.1 rest)

  cas_found : mapped (λ p. act.Cas p.0 p.1.0 p.1.1) swap xs ≡ Ok (a, rest) → ActionFound (codes "cas") xs a rest
  cas_found e =
      let m = found_mapped swap_text IsSwap swap exact_swap.found (λ p. act.Cas p.0 p.1.0 p.1.1) xs a rest e in
      subst (λ (w : Action). ActionFound (codes "cas") xs w rest) m.is ((m.fits.0, m.fits.1.0), ap (λ (s : List ℕ). codes "cas" ++ s) m.parts ∙ cas_text m.from.0 m.from.1.0 m.from.1.1 rest)

  alloc_found : mapped (λ p. act.Alloc p.0 p.1) made xs ≡ Ok (a, rest) → ActionFound (codes "alloc") xs a rest
  alloc_found e =
      let m = found_mapped made_text IsMade made exact_made.found (λ p. act.Alloc p.0 p.1) xs a rest e in
      subst (λ (w : Action). ActionFound (codes "alloc") xs w rest) m.is (m.fits, ap (λ (s : List ℕ). codes "alloc" ++ s) m.parts ∙ alloc_text m.from.0 m.from.1 rest)

  free_found : mapped act.Free (numbered (codes " b")) xs ≡ Ok (a, rest) → ActionFound (codes "free") xs a rest
  free_found e =
      let m = found_mapped (λ n. codes " b" ++ decimal n) IsU32 (numbered (codes " b")) (exact_numbered (codes " b")).found act.Free xs a rest e in
      subst (λ (w : Action). ActionFound (codes "free") xs w rest) m.is (m.fits, ap (λ (s : List ℕ). codes "free" ++ s) m.parts ∙ free_text m.from rest)

  newlock_found : mapped act.NewLock (numbered (codes " k")) xs ≡ Ok (a, rest) → ActionFound (codes "newlock") xs a rest
  newlock_found e =
      let m = found_mapped (λ n. codes " k" ++ decimal n) IsU32 (numbered (codes " k")) (exact_numbered (codes " k")).found act.NewLock xs a rest e in
      subst (λ (w : Action). ActionFound (codes "newlock") xs w rest) m.is (m.fits, ap (λ (s : List ℕ). codes "newlock" ++ s) m.parts ∙ newlock_text m.from rest)

  acquire_found : mapped act.Acquire (numbered (codes " k")) xs ≡ Ok (a, rest) → ActionFound (codes "acquire") xs a rest
  acquire_found e =
      let m = found_mapped (λ n. codes " k" ++ decimal n) IsU32 (numbered (codes " k")) (exact_numbered (codes " k")).found act.Acquire xs a rest e in
      subst (λ (w : Action). ActionFound (codes "acquire") xs w rest) m.is (m.fits, ap (λ (s : List ℕ). codes "acquire" ++ s) m.parts ∙ acquire_text m.from rest)

  release_found : mapped act.Release (numbered (codes " k")) xs ≡ Ok (a, rest) → ActionFound (codes "release") xs a rest
  release_found e =
      let m = found_mapped (λ n. codes " k" ++ decimal n) IsU32 (numbered (codes " k")) (exact_numbered (codes " k")).found act.Release xs a rest e in
      subst (λ (w : Action). ActionFound (codes "release") xs w rest) m.is (m.fits, ap (λ (s : List ℕ). codes "release" ++ s) m.parts ∙ release_text m.from rest)

  freelock_found : mapped act.FreeLock (numbered (codes " k")) xs ≡ Ok (a, rest) → ActionFound (codes "freelock") xs a rest
  freelock_found e =
      let m = found_mapped (λ n. codes " k" ++ decimal n) IsU32 (numbered (codes " k")) (exact_numbered (codes " k")).found act.FreeLock xs a rest e in
      subst (λ (w : Action). ActionFound (codes "freelock") xs w rest) m.is (m.fits, ap (λ (s : List ℕ). codes "freelock" ++ s) m.parts ∙ freelock_text m.from rest)

  fork_found : mapped act.Fork (numbered (codes " ")) xs ≡ Ok (a, rest) → ActionFound (codes "fork") xs a rest
  fork_found e =
      let m = found_mapped (λ n. codes " " ++ decimal n) IsU32 (numbered (codes " ")) (exact_numbered (codes " ")).found act.Fork xs a rest e in
      subst (λ (w : Action). ActionFound (codes "fork") xs w rest) m.is (m.fits, ap (λ (s : List ℕ). codes "fork" ++ s) m.parts ∙ fork_text m.from rest)

  join_found : mapped act.Join (numbered (codes " ")) xs ≡ Ok (a, rest) → ActionFound (codes "join") xs a rest
  join_found e =
      let m = found_mapped (λ n. codes " " ++ decimal n) IsU32 (numbered (codes " ")) (exact_numbered (codes " ")).found act.Join xs a rest e in
      subst (λ (w : Action). ActionFound (codes "join") xs w rest) m.is (m.fits, ap (λ (s : List ℕ). codes "join" ++ s) m.parts ∙ join_text m.from rest)

  print_found : mapped act.Print (behind (codes " ") signed) xs ≡ Ok (a, rest) → ActionFound (codes "print") xs a rest
  print_found e =
      let m = found_mapped (λ n. codes " " ++ signed_decimal n) (FitsSigned w64) (behind (codes " ") signed) exact_spaced_signed.found act.Print xs a rest e in
      subst (λ (w : Action). ActionFound (codes "print") xs w rest) m.is (m.fits, ap (λ (s : List ℕ). codes "print" ++ s) m.parts ∙ print_text m.from rest)

  read_found : mapped act.Read (behind (codes " ") signed) xs ≡ Ok (a, rest) → ActionFound (codes "read") xs a rest
  read_found e =
      let m = found_mapped (λ n. codes " " ++ signed_decimal n) (FitsSigned w64) (behind (codes " ") signed) exact_spaced_signed.found act.Read xs a rest e in
      subst (λ (w : Action). ActionFound (codes "read") xs w rest) m.is (m.fits, ap (λ (s : List ℕ). codes "read" ++ s) m.parts ∙ read_text m.from rest)

  turn_found : mapped (λ _. act.Turn) (nothing done) xs ≡ Ok (a, rest) → ActionFound (codes "turn") xs a rest
  turn_found e =
      let m = found_mapped (λ u. []) always (nothing done) exact_nothing.found (λ _. act.Turn) xs a rest e in
      subst (λ (w : Action). ActionFound (codes "turn") xs w rest) m.is (tt, ap (λ (s : List ℕ). codes "turn" ++ s) m.parts ∙ turn_text rest)

  call_found : mapped act.Call (numbered (codes " ")) xs ≡ Ok (a, rest) → ActionFound (codes "call") xs a rest
  call_found e =
      let m = found_mapped (λ n. codes " " ++ decimal n) IsU32 (numbered (codes " ")) (exact_numbered (codes " ")).found act.Call xs a rest e in
      subst (λ (w : Action). ActionFound (codes "call") xs w rest) m.is (m.fits, ap (λ (s : List ℕ). codes "call" ++ s) m.parts ∙ call_text m.from rest)

  return_found : mapped (λ _. act.Return) (nothing done) xs ≡ Ok (a, rest) → ActionFound (codes "return") xs a rest
  return_found e =
      let m = found_mapped (λ u. []) always (nothing done) exact_nothing.found (λ _. act.Return) xs a rest e in
      subst (λ (w : Action). ActionFound (codes "return") xs w rest) m.is (tt, ap (λ (s : List ℕ). codes "return" ++ s) m.parts ∙ return_text rest)

verb_found : (word : List ℕ) (v : Verb) → verb_of word ≡ Some v → word ≡ verb_text v
unfolding verb_of
verb_found word v e =
    found_verb word (codes "freelock") verb.FreeLock _ v (bytes_eq word (codes "freelock")) refl refl
    (found_verb word (codes "newlock") verb.NewLock _ v (bytes_eq word (codes "newlock")) refl refl
    (found_verb word (codes "acquire") verb.Acquire _ v (bytes_eq word (codes "acquire")) refl refl
    (found_verb word (codes "release") verb.Release _ v (bytes_eq word (codes "release")) refl refl
    (found_verb word (codes "return") verb.Return _ v (bytes_eq word (codes "return")) refl refl
    (found_verb word (codes "print") verb.Print _ v (bytes_eq word (codes "print")) refl refl
    (found_verb word (codes "store") verb.Store _ v (bytes_eq word (codes "store")) refl refl
    (found_verb word (codes "alloc") verb.Alloc _ v (bytes_eq word (codes "alloc")) refl refl
    (found_verb word (codes "load") verb.Load _ v (bytes_eq word (codes "load")) refl refl
    (found_verb word (codes "cas") verb.Cas _ v (bytes_eq word (codes "cas")) refl refl
    (found_verb word (codes "free") verb.Free _ v (bytes_eq word (codes "free")) refl refl
    (found_verb word (codes "fork") verb.Fork _ v (bytes_eq word (codes "fork")) refl refl
    (found_verb word (codes "join") verb.Join _ v (bytes_eq word (codes "join")) refl refl
    (found_verb word (codes "read") verb.Read _ v (bytes_eq word (codes "read")) refl refl
    (found_verb word (codes "turn") verb.Turn _ v (bytes_eq word (codes "turn")) refl refl
    (found_verb word (codes "call") verb.Call _ v (bytes_eq word (codes "call")) refl refl
    (λ h. absurd cc)))))))))))))))) e

verb_takes : (v : Verb) → verb_of (verb_text v) ≡ Some v
unfolding verb_of
verb_takes verb.Load = refl
verb_takes verb.Store = refl
verb_takes verb.Cas = refl
verb_takes verb.Alloc = refl
verb_takes verb.Free = refl
verb_takes verb.NewLock = refl
verb_takes verb.Acquire = refl
verb_takes verb.Release = refl
verb_takes verb.FreeLock = refl
verb_takes verb.Fork = refl
verb_takes verb.Join = refl
verb_takes verb.Print = refl
verb_takes verb.Read = refl
verb_takes verb.Turn = refl
verb_takes verb.Call = refl
verb_takes verb.Return = refl

verb_letters : (v : Verb) → list_all is_ascii_lowercase (verb_text v) ≡ true
verb_letters verb.Load = refl
verb_letters verb.Store = refl
verb_letters verb.Cas = refl
verb_letters verb.Alloc = refl
verb_letters verb.Free = refl
verb_letters verb.NewLock = refl
verb_letters verb.Acquire = refl
verb_letters verb.Release = refl
verb_letters verb.FreeLock = refl
verb_letters verb.Fork = refl
verb_letters verb.Join = refl
verb_letters verb.Print = refl
verb_letters verb.Read = refl
verb_letters verb.Turn = refl
verb_letters verb.Call = refl
verb_letters verb.Return = refl

arguments_found : (v : Verb) (xs : List ℕ) (a : Action) (rest : List ℕ) → arguments v xs ≡ Ok (a, rest) → ActionFound (verb_text v) xs a rest
unfolding arguments
arguments_found verb.Load xs a rest e = load_found xs a rest e
arguments_found verb.Store xs a rest e = store_found xs a rest e
arguments_found verb.Cas xs a rest e = cas_found xs a rest e
arguments_found verb.Alloc xs a rest e = alloc_found xs a rest e
arguments_found verb.Free xs a rest e = free_found xs a rest e
arguments_found verb.NewLock xs a rest e = newlock_found xs a rest e
arguments_found verb.Acquire xs a rest e = acquire_found xs a rest e
arguments_found verb.Release xs a rest e = release_found xs a rest e
arguments_found verb.FreeLock xs a rest e = freelock_found xs a rest e
arguments_found verb.Fork xs a rest e = fork_found xs a rest e
arguments_found verb.Join xs a rest e = join_found xs a rest e
arguments_found verb.Print xs a rest e = print_found xs a rest e
arguments_found verb.Read xs a rest e = read_found xs a rest e
arguments_found verb.Turn xs a rest e = turn_found xs a rest e
arguments_found verb.Call xs a rest e = call_found xs a rest e
arguments_found verb.Return xs a rest e = return_found xs a rest e

-- ---- actions

take_one : (c : ℕ) (xs : List ℕ) (n : ℕ) → take (1 + n) (c ∷ xs) ≡ c ∷ take n xs
take_one c xs n = rw one-add refl

drop_one : (c : ℕ) (xs : List ℕ) (n : ℕ) → drop (1 + n) (c ∷ xs) ≡ drop n xs
drop_one c xs n = rw one-add refl

split_front : (s xs : List ℕ) → list_all is_ascii_lowercase s ≡ true → Ends is_ascii_lowercase xs → (take (verb_len (s ++ xs)) (s ++ xs) ≡ s) × (drop (verb_len (s ++ xs)) (s ++ xs) ≡ xs)
split_front [] [] each ends = (refl, refl)
split_front [] (x ∷ xs) each ends = (rw ends refl, rw ends refl)
split_front (c ∷ s) xs each ends =
    let p = and_parts (is_ascii_lowercase c) (list_all is_ascii_lowercase s) each in
    let ih = split_front s xs p.1 ends in
    (rw (p.0, take_one c (s ++ xs) (verb_len (s ++ xs))) (ap (λ (w : List ℕ). c ∷ w) ih.0), rw (p.0, drop_one c (s ++ xs) (verb_len (s ++ xs))) ih.1)

-- the letters in front are the verb
split_verb : (v : Verb) (xs : List ℕ) → Ends is_ascii_lowercase xs → action (verb_text v ++ xs) ≡ arguments v xs
unfolding action
split_verb v xs ends = let h = split_front (verb_text v) xs (verb_letters v) ends in rw (h.0, h.1, verb_takes v) refl

pub action_takes : (a : Action) (more : List ℕ) → IsActionWithin a → action (action_text a ++ 10 ∷ more) ≡ Ok (a, 10 ∷ more)
unfolding arguments
action_takes (act.Load c v) more f =
    ap action (sym (load_text c v (10 ∷ more))) ∙ split_verb verb.Load (access_text (c, v) ++ 10 ∷ more) refl
    ∙ takes_mapped access_text IsAccess access exact_access (λ p. act.Load p.0 p.1) (c, v) (10 ∷ more) (f.0, f.1) refl
action_takes (act.Store c v) more f =
    ap action (sym (store_text c v (10 ∷ more))) ∙ split_verb verb.Store (access_text (c, v) ++ 10 ∷ more) refl
    ∙ takes_mapped access_text IsAccess access exact_access (λ p. act.Store p.0 p.1) (c, v) (10 ∷ more) (f.0, f.1) refl
action_takes (act.Cas c n b) more f =
    ap action (sym (cas_text c n b (10 ∷ more))) ∙ split_verb verb.Cas (swap_text (c, (n, b)) ++ 10 ∷ more) refl
    ∙ takes_mapped swap_text IsSwap swap exact_swap (λ p. act.Cas p.0 p.1.0 p.1.1) (c, (n, b)) (10 ∷ more) (f.0, (f.1, tt)) refl
action_takes (act.Alloc b n) more f =
    ap action (sym (alloc_text b n (10 ∷ more))) ∙ split_verb verb.Alloc (made_text (b, n) ++ 10 ∷ more) refl
    ∙ takes_mapped made_text IsMade made exact_made (λ p. act.Alloc p.0 p.1) (b, n) (10 ∷ more) f refl
action_takes (act.Free n) more f =
    ap action (sym (free_text n (10 ∷ more))) ∙ split_verb verb.Free ((codes " b" ++ decimal n) ++ 10 ∷ more) refl
    ∙ takes_mapped (λ n. codes " b" ++ decimal n) IsU32 (numbered (codes " b")) (exact_numbered (codes " b")) act.Free n (10 ∷ more) f refl
action_takes (act.NewLock n) more f =
    ap action (sym (newlock_text n (10 ∷ more))) ∙ split_verb verb.NewLock ((codes " k" ++ decimal n) ++ 10 ∷ more) refl
    ∙ takes_mapped (λ n. codes " k" ++ decimal n) IsU32 (numbered (codes " k")) (exact_numbered (codes " k")) act.NewLock n (10 ∷ more) f refl
action_takes (act.Acquire n) more f =
    ap action (sym (acquire_text n (10 ∷ more))) ∙ split_verb verb.Acquire ((codes " k" ++ decimal n) ++ 10 ∷ more) refl
    ∙ takes_mapped (λ n. codes " k" ++ decimal n) IsU32 (numbered (codes " k")) (exact_numbered (codes " k")) act.Acquire n (10 ∷ more) f refl
action_takes (act.Release n) more f =
    ap action (sym (release_text n (10 ∷ more))) ∙ split_verb verb.Release ((codes " k" ++ decimal n) ++ 10 ∷ more) refl
    ∙ takes_mapped (λ n. codes " k" ++ decimal n) IsU32 (numbered (codes " k")) (exact_numbered (codes " k")) act.Release n (10 ∷ more) f refl
action_takes (act.FreeLock n) more f =
    ap action (sym (freelock_text n (10 ∷ more))) ∙ split_verb verb.FreeLock ((codes " k" ++ decimal n) ++ 10 ∷ more) refl
    ∙ takes_mapped (λ n. codes " k" ++ decimal n) IsU32 (numbered (codes " k")) (exact_numbered (codes " k")) act.FreeLock n (10 ∷ more) f refl
action_takes (act.Fork n) more f =
    ap action (sym (fork_text n (10 ∷ more))) ∙ split_verb verb.Fork ((codes " " ++ decimal n) ++ 10 ∷ more) refl
    ∙ takes_mapped (λ n. codes " " ++ decimal n) IsU32 (numbered (codes " ")) (exact_numbered (codes " ")) act.Fork n (10 ∷ more) f refl
action_takes (act.Join n) more f =
    ap action (sym (join_text n (10 ∷ more))) ∙ split_verb verb.Join ((codes " " ++ decimal n) ++ 10 ∷ more) refl
    ∙ takes_mapped (λ n. codes " " ++ decimal n) IsU32 (numbered (codes " ")) (exact_numbered (codes " ")) act.Join n (10 ∷ more) f refl
action_takes (act.Print n) more f =
    ap action (sym (print_text n (10 ∷ more))) ∙ split_verb verb.Print ((codes " " ++ signed_decimal n) ++ 10 ∷ more) refl
    ∙ takes_mapped (λ n. codes " " ++ signed_decimal n) (FitsSigned w64) (behind (codes " ") signed) exact_spaced_signed act.Print n (10 ∷ more) f refl
action_takes (act.Read n) more f =
    ap action (sym (read_text n (10 ∷ more))) ∙ split_verb verb.Read ((codes " " ++ signed_decimal n) ++ 10 ∷ more) refl
    ∙ takes_mapped (λ n. codes " " ++ signed_decimal n) (FitsSigned w64) (behind (codes " ") signed) exact_spaced_signed act.Read n (10 ∷ more) f refl
action_takes act.Turn more f =
    ap action (sym (turn_text (10 ∷ more))) ∙ split_verb verb.Turn ([] ++ 10 ∷ more) refl
    ∙ takes_mapped (λ u. []) always (nothing done) exact_nothing (λ _. act.Turn) tt (10 ∷ more) tt refl
action_takes (act.Call n) more f =
    ap action (sym (call_text n (10 ∷ more))) ∙ split_verb verb.Call ((codes " " ++ decimal n) ++ 10 ∷ more) refl
    ∙ takes_mapped (λ n. codes " " ++ decimal n) IsU32 (numbered (codes " ")) (exact_numbered (codes " ")) act.Call n (10 ∷ more) f refl
action_takes act.Return more f =
    ap action (sym (return_text (10 ∷ more))) ∙ split_verb verb.Return ([] ++ 10 ∷ more) refl
    ∙ takes_mapped (λ u. []) always (nothing done) exact_nothing (λ _. act.Return) tt (10 ∷ more) tt refl

behind_found : (word : List ℕ) (o : Option Verb) → verb_of word ≡ o → (xs : List ℕ) (a : Action) (rest : List ℕ) → behind_verb o xs ≡ Ok (a, rest) → ActionFound word xs a rest
behind_found word None is xs a rest e = absurd cc
behind_found word (Some v) is xs a rest e = subst (λ (w : List ℕ). ActionFound w xs a rest) (sym (verb_found word v is)) (arguments_found v xs a rest e)

pub action_found : (xs : List ℕ) (a : Action) (rest : List ℕ) → action xs ≡ Ok (a, rest) → IsActionWithin a × (xs ≡ action_text a ++ rest)
unfolding action
action_found xs a rest e =
    let f = behind_found (take (verb_len xs) xs) (verb_of (take (verb_len xs) xs)) refl (drop (verb_len xs) xs) a rest e in
    (f.0, sym (take-append-drop (verb_len xs) xs) ∙ f.1)

-- ---- lines

abbrev made_event : ℕ → Action → Event
made_event t a = record { tid = t; action = a }

regroup : (t b a n rest : List ℕ) → (t ++ ((b ++ a) ++ n)) ++ rest ≡ ((t ++ b ++ a) ++ n) ++ rest
regroup t b a n rest = simp append_assoc

-- the line of an event is read as it
pub line_takes : (e : Event) (rest : List ℕ) → IsEventWithin e → line (event_line e ++ rest) ≡ Ok (e, rest)
unfolding line
line_takes e rest f =
    let parts : event_line e ++ rest ≡ decimal e.tid ++ (codes " " ++ (action_text e.action ++ 10 ∷ rest)) = simp append_assoc in
    rw (parts, exact_unsigned.takes e.tid (codes " " ++ (action_text e.action ++ 10 ∷ rest)) f.0 refl, word_takes (codes " ") (action_text e.action ++ 10 ∷ rest), action_takes e.action rest f.1, word_takes (codes "\n") rest) refl

abbrev spaced_action : Action → List ℕ
spaced_action a = codes " " ++ action_text a

abbrev ended_action : Action × Unit {0} → List ℕ
ended_action p = spaced_action p.0 ++ codes "\n"

abbrev IsEnded : Action × Unit {0} → Type 0
IsEnded p = IsActionWithin p.0 × always p.1

abbrev line_parts : ℕ × (Action × Unit {0}) → List ℕ
line_parts p = decimal p.0 ++ ended_action p.1

abbrev line_reader : Reader ℕ (ℕ × (Action × Unit {0}))
line_reader = pair unsigned (pair (behind (codes " ") action) (word (codes "\n")))

found_parts : Found line_parts (λ p. IsU32 p.0 × IsEnded p.1) line_reader
found_parts =
    found_pair decimal IsU32 unsigned exact_unsigned.found ended_action IsEnded (pair (behind (codes " ") action) (word (codes "\n")))
    (found_pair spaced_action IsActionWithin (behind (codes " ") action) (found_behind action_text IsActionWithin action action_found (codes " ")) (λ u. codes "\n") always (word (codes "\n")) (exact_word (codes "\n")).found)

-- and nothing else is
pub line_found : (xs : List ℕ) (e : Event) (rest : List ℕ) → line xs ≡ Ok (e, rest) → IsEventWithin e × (xs ≡ event_line e ++ rest)
unfolding line
line_found xs e rest h =
    let m = found_mapped line_parts (λ p. IsU32 p.0 × IsEnded p.1) line_reader found_parts (λ p. made_event p.0 p.1.0) xs e rest h in
    subst (λ (d : Event). IsEventWithin d × (xs ≡ event_line d ++ rest)) m.is
    ((m.fits.0, m.fits.1.0), m.parts ∙ regroup (decimal m.from.0) (codes " ") (action_text m.from.1.0) (codes "\n") rest)

abbrev last_front : ℕ → List ℕ
last_front n = codes "end " ++ decimal n

exact_end : Exact last_front IsU32 (numbered (codes "end "))
exact_end = exact_numbered (codes "end ")

pub last_takes : (count : ℕ) (rest : List ℕ) → IsU32 count → last count (last_line count ++ rest) ≡ Ok (done, rest)
unfolding last
last_takes count rest small_count =
    rw (append_assoc (last_front count) (codes "\n") rest, exact_end.takes count (codes "\n" ++ rest) small_count refl, eq-eqb count count refl) (word_takes (codes "\n") rest)

counted_found : (count n : ℕ) (b : Bool) → (n == count) ≡ b → (xs : List ℕ) (u : Unit {0}) (rest : List ℕ) → cond b (word (codes "\n") xs) (refuse xs) ≡ Ok (u, rest) → (n ≡ count) × (xs ≡ codes "\n" ++ rest)
counted_found count n true is xs u rest e = (eqb-true n count is, ((exact_word (codes "\n")).found xs u rest e).1)
counted_found count n false is xs u rest e = absurd cc

pub last_found : (count : ℕ) (xs : List ℕ) (u : Unit {0}) (rest : List ℕ) → last count xs ≡ Ok (u, rest) → xs ≡ last_line count ++ rest
unfolding last
last_found count xs u rest e =
    let x = bind_ok (numbered (codes "end ") xs) (λ y. counted count y.0 y.1) (u, rest) e in
    let f = exact_end.found xs x.0.0 x.0.1 x.1 in
    let g = counted_found count x.0.0 (x.0.0 == count) refl x.0.1 u rest x.2 in
    f.1 ∙ ap (λ (s : List ℕ). last_front x.0.0 ++ s) g.1 ∙ ap (λ (n : ℕ). last_front n ++ (codes "\n" ++ rest)) g.0 ∙ sym (append_assoc (last_front count) (codes "\n") rest)

verb_utf8 : (v : Verb) → IsUtf8 (verb_text v)
unfolding encode
verb_utf8 verb.Load = (codes "load", (refl, refl))
verb_utf8 verb.Store = (codes "store", (refl, refl))
verb_utf8 verb.Cas = (codes "cas", (refl, refl))
verb_utf8 verb.Alloc = (codes "alloc", (refl, refl))
verb_utf8 verb.Free = (codes "free", (refl, refl))
verb_utf8 verb.NewLock = (codes "newlock", (refl, refl))
verb_utf8 verb.Acquire = (codes "acquire", (refl, refl))
verb_utf8 verb.Release = (codes "release", (refl, refl))
verb_utf8 verb.FreeLock = (codes "freelock", (refl, refl))
verb_utf8 verb.Fork = (codes "fork", (refl, refl))
verb_utf8 verb.Join = (codes "join", (refl, refl))
verb_utf8 verb.Print = (codes "print", (refl, refl))
verb_utf8 verb.Read = (codes "read", (refl, refl))
verb_utf8 verb.Turn = (codes "turn", (refl, refl))
verb_utf8 verb.Call = (codes "call", (refl, refl))
verb_utf8 verb.Return = (codes "return", (refl, refl))

no_verb_by : (word : List ℕ) → (IsUtf8 word → ⊥) → (o : Option Verb) → verb_of word ≡ o → None ≡ o
no_verb_by word bad None is = refl
no_verb_by word bad (Some v) is = absurd (bad (subst IsUtf8 (sym (verb_found word v is)) (verb_utf8 v)))

-- bytes that are no text are no verb
pub no_verb : (word : List ℕ) → (IsUtf8 word → ⊥) → None ≡ verb_of word
no_verb word bad = no_verb_by word bad (verb_of word) refl
