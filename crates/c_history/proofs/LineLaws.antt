-- Which line of a text is the first that no history has.
use Rattle.std.proofs.Common.{◌≡◌, ◌∙◌, sym, ap, subst, refl, ℕ, zero, suc, ℤ, pos, negsuc, ◌+◌, ◌-◌, ◌<◌, ◌≤◌, ◌^◌, arith, ◌==◌, ◌⊎◌, inl, inr, Bool, true, false, List, [], ◌∷◌, ◌++◌, Result, Ok, Err, length, append_assoc, add_assoc, add_comm, zero-add}
use Rattle.std.specs.Prelude.{codes, flat_map, nat_lt, nat_le, FitsSigned}
use Rattle.std.specs.Int.{w64}
use Rattle.std.specs.Char.{is_ascii_digit}
use Rattle.std.specs.Fmt.{decimal, signed_decimal}
use Rattle.std.specs.List.{list_all, AllByRecursion}
use Rattle.std.proofs.lemmas.Bool.{and_parts, and_from, eqb-true, leb-true, lt-ltb, ltb-true, ltb-false}
use Rattle.std.proofs.Math.Numerals.{one-add}
use Rattle.std.proofs.lemmas.List.{append-nil, length-append}
use Rattle.std.proofs.lemmas.List.Concat.{flat_map-cons}
use Rattle.std.proofs.lemmas.Fmt.{digits_decimal}
use Rattle.pl_readers.specs.declared.error.Stop.{Stop}
use Rattle.pl_readers.specs.declared.error.ReadError.{ReadError}
use Rattle.pl_readers.specs.declared.error.ReadError.TheVariants as read
use Rattle.pl_readers.specs.Given.{Fails}
use Rattle.pl_readers.specs.Bytes.{word, number}
use Rattle.pl_readers.proofs.Exact.{word_takes}
use Rattle.pl_readers.proofs.Correct.{fine_is}
use Rattle.pl_resource.specs.declared.value.Cell.{Cell}
use Rattle.pl_resource.specs.declared.value.Value.{Value}
use Rattle.pl_resource.specs.declared.value.Value.TheVariants as value
use Rattle.c_meaning.specs.declared.action.Action.{Action}
use Rattle.c_meaning.specs.declared.action.Action.TheVariants as act
use Rattle.c_meaning.specs.declared.action.Event.{Event}
use Rattle.c_meaning.specs.declared.action.History.{History}
use Rattle.c_history.specs.declared.error.HistoryError.{HistoryError}
use Rattle.c_history.specs.declared.error.HistoryError.TheVariants as error
use Rattle.c_history.specs.Text.{truth_text, cell_text, value_text, action_text, event_text, event_line, first_line, last_line, history_text}
use Rattle.c_history.specs.Bounds.{IsU32, IsCellWithin, IsValueWithin, IsActionWithin, IsEventWithin, IsWithin}
use Rattle.c_history.specs.Lines.{line_ends, first_lines, IsTextOf, BeginsHistory, IsRefusedLine, error_at, IfBadHistory, IsReadAs}
use Rattle.c_history.specs.Readers.{unsigned, line, last, done, AreLines}
use Rattle.c_history.proofs.NumberTexts.{own}
use Rattle.c_history.proofs.Exactly.{exact_word}
use Rattle.c_history.proofs.ActionLaws.{line_takes, line_found, last_takes, last_found}

-- ---- no line end inside a line

abbrev above_lf : ℕ → Bool
above_lf c = nat_lt 10 c

-- each byte is above LF
abbrev pub IsInside : List ℕ → Type 0
IsInside a = list_all above_lf a ≡ true

inside_both : (a b : List ℕ) → IsInside a → IsInside b → IsInside (a ++ b)
inside_both [] b h k = k
inside_both (c ∷ a) b h k = let p = and_parts (above_lf c) (list_all above_lf a) h in and_from (above_lf c) (list_all above_lf (a ++ b)) p.0 (inside_both a b p.1 k)

digit_above : (c : ℕ) → is_ascii_digit c ≡ true → above_lf c ≡ true
digit_above c h = let p = and_parts (nat_le 48 c) (nat_le c 57) h in let low = leb-true 48 c p.0 in lt-ltb 10 c (omega arith)

digits_inside : (ds : List ℕ) → list_all is_ascii_digit ds ≡ true → IsInside ds
digits_inside [] h = refl
digits_inside (c ∷ ds) h = let p = and_parts (is_ascii_digit c) (list_all is_ascii_digit ds) h in and_from (above_lf c) (list_all above_lf ds) (digit_above c p.0) (digits_inside ds p.1)

decimal_inside : (n : ℕ) → IsU32 n → IsInside (decimal n)
decimal_inside n h = digits_inside (decimal n) (digits_decimal own n (omega arith))

signed_inside : (z : ℤ) → FitsSigned w64 z → IsInside (signed_decimal z)
signed_inside (pos n) h = digits_inside (decimal n) (digits_decimal own n (omega arith))
signed_inside (negsuc n) h = digits_inside (decimal (suc n)) (digits_decimal own (suc n) (omega arith))

truth_inside : (b : Bool) → IsInside (truth_text b)
truth_inside true = refl
truth_inside false = refl

cell_inside : (c : Cell) → IsCellWithin c → IsInside (cell_text c)
cell_inside c h =
    inside_both (codes "b" ++ decimal c.block ++ codes "." ++ decimal c.index ++ codes ".") (decimal c.field)
    (inside_both (codes "b" ++ decimal c.block ++ codes "." ++ decimal c.index) (codes ".")
    (inside_both (codes "b" ++ decimal c.block ++ codes ".") (decimal c.index)
    (inside_both (codes "b" ++ decimal c.block) (codes ".") (decimal_inside c.block h.0) refl)
    (decimal_inside c.index h.1)) refl)
    (decimal_inside c.field h.2)

value_inside : (v : Value) → IsValueWithin v → IsInside (value_text v)
value_inside (value.Int z) h = signed_inside z h
value_inside (value.Truth b) h = truth_inside b
value_inside value.Null h = refl
value_inside (value.Block b) h = decimal_inside b h
value_inside (value.Lock l) h = decimal_inside l h

-- a text, a blank and a text
spaced_inside : (a b : List ℕ) → IsInside a → IsInside b → IsInside (a ++ codes " " ++ b)
spaced_inside a b h k = inside_both (a ++ codes " ") b (inside_both a (codes " ") h refl) k

action_inside : (a : Action) → IsActionWithin a → IsInside (action_text a)
action_inside (act.Load c v) h = spaced_inside (cell_text c) (value_text v) (cell_inside c h.0) (value_inside v h.1)
action_inside (act.Store c v) h = spaced_inside (cell_text c) (value_text v) (cell_inside c h.0) (value_inside v h.1)
action_inside (act.Cas c n b) h = spaced_inside (cell_text c ++ codes " " ++ signed_decimal n) (truth_text b) (spaced_inside (cell_text c) (signed_decimal n) (cell_inside c h.0) (signed_inside n h.1)) (truth_inside b)
action_inside (act.Alloc b n) h = spaced_inside (decimal b) (decimal n) (decimal_inside b h.0) (decimal_inside n h.1)
action_inside (act.Free n) h = decimal_inside n h
action_inside (act.NewLock n) h = decimal_inside n h
action_inside (act.Acquire n) h = decimal_inside n h
action_inside (act.Release n) h = decimal_inside n h
action_inside (act.FreeLock n) h = decimal_inside n h
action_inside (act.Fork n) h = decimal_inside n h
action_inside (act.Join n) h = decimal_inside n h
action_inside (act.Print n) h = signed_inside n h
action_inside (act.Read n) h = signed_inside n h
action_inside act.Turn h = refl
action_inside (act.Call n) h = decimal_inside n h
action_inside act.Return h = refl

event_inside : (e : Event) → IsEventWithin e → IsInside (event_text e)
event_inside e h = spaced_inside (decimal e.tid) (action_text e.action) (decimal_inside e.tid h.0) (action_inside e.action h.1)

-- ---- whole lines

not_equal : (c : ℕ) → 10 < c → (t : Bool) → (c == 10) ≡ t → t ≡ false
not_equal c lt true is = absurd (omega (arith, eqb-true c 10 is))
not_equal c lt false is = refl

not_lf : (c : ℕ) → above_lf c ≡ true → (c == 10) ≡ false
not_lf c h = not_equal c (ltb-true 10 c h) (c == 10) refl

pub first_none : (bytes : List ℕ) → first_lines 0 bytes ≡ []
first_none [] = refl
first_none (c ∷ bytes) = refl

-- these bytes are k whole lines
record IsWhole (k : ℕ) (front : List ℕ) : Type 0 where
  first : (n : ℕ) (rest : List ℕ) → first_lines (k + n) (front ++ rest) ≡ front ++ first_lines n rest
  ends : (rest : List ℕ) → line_ends (front ++ rest) ≡ k + line_ends rest

line_first : (a : List ℕ) → IsInside a → (n : ℕ) (rest : List ℕ) → first_lines (suc n) (a ++ 10 ∷ rest) ≡ a ++ 10 ∷ first_lines n rest
line_first [] h n rest = refl
line_first (c ∷ a) h n rest =
    let p = and_parts (above_lf c) (list_all above_lf a) h in
    rw (not_lf c p.0) (ap (λ (xs : List ℕ). c ∷ xs) (line_first a p.1 n rest))

line_end : (a : List ℕ) → IsInside a → (rest : List ℕ) → line_ends (a ++ 10 ∷ rest) ≡ line_ends rest + 1
line_end [] h rest = refl
line_end (c ∷ a) h rest = let p = and_parts (above_lf c) (list_all above_lf a) h in rw (not_lf c p.0) (line_end a p.1 rest)

one_line : (a : List ℕ) → IsInside a → IsWhole 1 (a ++ codes "\n")
one_line a h = record {
  first = λ n rest. rw (append_assoc a (codes "\n") rest, one-add) (line_first a h n rest ∙ sym (append_assoc a (codes "\n") (first_lines n rest)));
  ends = λ rest. rw (append_assoc a (codes "\n") rest) (line_end a h rest ∙ add_comm (line_ends rest) 1);
}

no_line : IsWhole 0 []
no_line = record { first = λ n rest. ap (λ m. first_lines m rest) (zero-add n); ends = λ rest. sym (zero-add (line_ends rest)) }

more_lines : (j k : ℕ) (front back : List ℕ) → IsWhole j front → IsWhole k back → IsWhole (j + k) (front ++ back)
more_lines j k front back f b = record {
  first = λ n rest. rw (append_assoc front back rest, add_assoc j k n, f.first (k + n) (back ++ rest), b.first n rest) (sym (append_assoc front back (first_lines n rest)));
  ends = λ rest. rw (append_assoc front back rest, f.ends (back ++ rest), b.ends rest) (sym (add_assoc j k (line_ends rest)));
}

-- a text goes on with whole lines that the rest does not
abbrev Refutes : List ℕ → List ℕ → Type 0
Refutes rest more = ((more ≡ []) × (rest ≡ [] → ⊥)) ⊎ ((a after : List ℕ) × (more ≡ a ++ 10 ∷ after) × IsInside a × ((behind : List ℕ) → rest ≡ a ++ 10 ∷ behind → ⊥))

cons_head : (c d : ℕ) (xs ys : List ℕ) → c ∷ xs ≡ d ∷ ys → c ≡ d
cons_head c d xs ys e = cc

cons_tail : (c d : ℕ) (xs ys : List ℕ) → c ∷ xs ≡ d ∷ ys → xs ≡ ys
cons_tail c d xs ys e = cc

true_or_false : (t : Bool) → t ≡ true → t ≡ false → ⊥
true_or_false t h k = let e = sym h ∙ k in absurd cc

inside_tail : (c : ℕ) (a : List ℕ) → IsInside (c ∷ a) → IsInside a
inside_tail c a h = (and_parts (above_lf c) (list_all above_lf a) h).1

-- where the first line of the rest, and more, is a line a and more, the rest begins with that line
cut_at : (c : ℕ) (cs a after more : List ℕ) → IsInside a → ((x : ℕ) (b : List ℕ) → a ≡ x ∷ b → 1 ≤ line_ends cs → first_lines 1 cs ++ more ≡ b ++ 10 ∷ after → (behind : List ℕ) × (cs ≡ b ++ 10 ∷ behind)) → (t : Bool) → (c == 10) ≡ t → 1 ≤ line_ends (c ∷ cs) → first_lines 1 (c ∷ cs) ++ more ≡ a ++ 10 ∷ after → (behind : List ℕ) × (c ∷ cs ≡ a ++ 10 ∷ behind)
cut_at c cs [] after more h ih true is some e = (cs, ap (λ (x : ℕ). x ∷ cs) (eqb-true c 10 is))
cut_at c cs [] after more h ih false is some e = let f = rw is at e in (cs, ap (λ (x : ℕ). x ∷ cs) (cons_head c 10 (first_lines 1 cs ++ more) after f))
cut_at c cs (x ∷ a) after more h ih true is some e =
    let p = and_parts (above_lf x) (list_all above_lf a) h in
    let f = rw is at e in
    let same : c ≡ x = cons_head c x (first_lines 0 cs ++ more) (a ++ 10 ∷ after) f in
    absurd (true_or_false (x == 10) (ap (λ (y : ℕ). y == 10) (sym same) ∙ is) (not_lf x p.0))
cut_at c cs (x ∷ a) after more h ih false is some e =
    let f = rw is at e in
    let same : c ≡ x = cons_head c x (first_lines 1 cs ++ more) (a ++ 10 ∷ after) f in
    let left : 1 ≤ line_ends cs = rw is at some in
    let g = ih x a refl left (cons_tail c x (first_lines 1 cs ++ more) (a ++ 10 ∷ after) f) in
    (g.0, ap (λ (y : ℕ). y ∷ cs) same ∙ ap (λ (ys : List ℕ). x ∷ ys) g.1)

cut_line : (rest a after more : List ℕ) → IsInside a → 1 ≤ line_ends rest → first_lines 1 rest ++ more ≡ a ++ 10 ∷ after → (behind : List ℕ) × (rest ≡ a ++ 10 ∷ behind)
cut_line [] a after more h some e = absurd (omega arith)
cut_line (c ∷ cs) a after more h some e =
    cut_at c cs a after more h (λ x b is left f. cut_line cs b after more (inside_tail x b (subst IsInside is h)) left f) (c == 10) refl some e

cancel : (front xs ys : List ℕ) → front ++ xs ≡ front ++ ys → xs ≡ ys
cancel [] xs ys e = e
cancel (c ∷ front) xs ys e = cancel front xs ys (cons_tail c c (front ++ xs) (front ++ ys) e)

first_left : (t : Bool) (c : ℕ) (cs more : List ℕ) → (c == 10) ≡ t → first_lines 1 (c ∷ cs) ++ more ≡ [] → ⊥
first_left true c cs more is e = let f = rw is at e in absurd cc
first_left false c cs more is e = let f = rw is at e in absurd cc

some_first : (rest more : List ℕ) → (rest ≡ [] → ⊥) → first_lines 1 rest ++ more ≡ [] → ⊥
some_first [] more some e = some refl
some_first (c ∷ cs) more some e = first_left (c == 10) c cs more refl e

goes_wrong : (rest more : List ℕ) → 1 ≤ line_ends rest → Refutes rest (first_lines 1 rest ++ more) → ⊥
goes_wrong rest more some (inl none) = some_first rest more none.1 none.0
goes_wrong rest more some (inr f) = let c = cut_line rest f.0 f.1 more f.3 some f.2 in f.4 c.0 c.1

goes_missing : (rest : List ℕ) → Refutes rest rest → ⊥
goes_missing rest (inl none) = none.1 none.0
goes_missing rest (inr f) = f.4 f.1 f.2

front_lines : (k : ℕ) (front rest : List ℕ) → IsWhole k front → first_lines (k + 1 - 1) (front ++ rest) ≡ front
front_lines k front rest w =
    let same : k + 1 - 1 ≡ k + 0 = omega arith in
    ap (λ n. first_lines n (front ++ rest)) same ∙ w.first 0 rest ∙ ap (λ (b : List ℕ). front ++ b) (first_none rest) ∙ append-nil front

-- k whole lines begin a history, and no history goes on with the next line of the bytes
refused_behind : (k : ℕ) (bytes front rest : List ℕ) → bytes ≡ front ++ rest → IsWhole k front → BeginsHistory front → ((h : History) (more : List ℕ) → IsWithin h → history_text h ≡ front ++ more → Refutes rest more) → IsRefusedLine bytes (k + 1)
refused_behind k bytes front rest is lines begins refutes = subst (λ (b : List ℕ). IsRefusedLine b (k + 1)) (sym is) (record {
  from_one = omega arith;
  there = omega (arith, lines.ends rest);
  right = subst BeginsHistory (sym (front_lines k front rest lines)) begins;
  wrong = λ within w.
      let next : first_lines (k + 1) (front ++ rest) ≡ front ++ first_lines 1 rest = lines.first 1 rest in
      let some : 1 ≤ line_ends rest = omega (arith, lines.ends rest) in
      let text : history_text w.0 ≡ front ++ (first_lines 1 rest ++ w.1) = sym w.2.text ∙ ap (λ (b : List ℕ). b ++ w.1) next ∙ append_assoc front (first_lines 1 rest) w.1 in
      goes_wrong rest w.1 some (refutes w.0 (first_lines 1 rest ++ w.1) w.2.within text);
  missing = λ last h t. goes_missing rest (refutes h rest t.within (sym t.text));
})

-- ---- the events of a text

lines_whole : (es : List Event) → AllByRecursion IsEventWithin es → IsWhole (length es) (flat_map event_line es)
lines_whole [] all = no_line
lines_whole (e ∷ es) all =
    subst (λ (k : ℕ). IsWhole k (flat_map event_line (e ∷ es))) (one-add (length es))
    (subst (IsWhole (1 + length es)) (sym (flat_map-cons event_line e es)) (more_lines 1 (length es) (event_line e) (flat_map event_line es) (one_line (event_text e) (event_inside e all.0)) (lines_whole es all.1)))

-- the lines of events take as many bytes as there are events
pub lines_long : (es : List Event) → length es ≤ length (flat_map event_line es)
lines_long [] = omega arith
lines_long (e ∷ es) = rw flat_map-cons (omega (arith, lines_long es, length-append (event_line e) (flat_map event_line es), length-append (event_text e) (codes "\n")))

-- the last line is no line of an event
last_is_none : (n : ℕ) (rest : List ℕ) → (s : Stop) × (line (last_line n ++ rest) ≡ Err s)
unfolding line unsigned number
last_is_none n rest = (record { is_deep = false; left = length (last_line n ++ rest) }, refl)

abbrev fine : {A : Type 0} → A → Result A Stop
fine a = Ok a

ok_is : {A B : Type 0} (a c : A) (b d : B) → fine {A = A × B} (a, b) ≡ fine {A = A × B} (c, d) → (a ≡ c) × (b ≡ d)
ok_is {A} {B} a c b d e = let f : (a, b) ≡ (c, d) = fine_is (a, b) (c, d) e in (ap (λ (p : A × B). p.0) f, ap (λ (p : A × B). p.1) f)

ok_or_err : {A : Type 0} (r : Result A Stop) (a : A) (s : Stop) → r ≡ Ok a → r ≡ Err s → ⊥
ok_or_err r a s h k = let e = sym h ∙ k in absurd cc

-- the events of a text whose beginning is known
pub record Splits (es fs : List Event) (rest : List ℕ) (n : ℕ) : Type 0 where
  pub more : List Event
  pub is : fs ≡ es ++ more
  pub text : rest ≡ flat_map event_line more ++ last_line n
  pub within : AllByRecursion IsEventWithin more

splits : (es fs : List Event) (rest : List ℕ) (n : ℕ) → AllByRecursion IsEventWithin es → AllByRecursion IsEventWithin fs → flat_map event_line fs ++ last_line n ≡ flat_map event_line es ++ rest → Splits es fs rest n
splits [] fs rest n all each e = record { more = fs; is = refl; text = sym e; within = each }
splits (d ∷ es) [] rest n all each e =
    let begins : last_line n ≡ event_line d ++ (flat_map event_line es ++ rest) = e ∙ ap (λ (b : List ℕ). b ++ rest) (flat_map-cons event_line d es) ∙ append_assoc (event_line d) (flat_map event_line es) rest in
    let none = last_is_none n [] in
    absurd (ok_or_err (line (event_line d ++ (flat_map event_line es ++ rest))) (d, flat_map event_line es ++ rest) none.0 (line_takes d (flat_map event_line es ++ rest) all.0) (ap line (sym begins ∙ sym (append-nil (last_line n))) ∙ none.1))
splits (d ∷ es) (f ∷ fs) rest n all each e =
    let one : event_line f ++ (flat_map event_line fs ++ last_line n) ≡ event_line d ++ (flat_map event_line es ++ rest) =
    sym (ap (λ (b : List ℕ). b ++ last_line n) (flat_map-cons event_line f fs) ∙ append_assoc (event_line f) (flat_map event_line fs) (last_line n)) ∙ e ∙ ap (λ (b : List ℕ). b ++ rest) (flat_map-cons event_line d es) ∙ append_assoc (event_line d) (flat_map event_line es) rest in
    let same = ok_is f d (flat_map event_line fs ++ last_line n) (flat_map event_line es ++ rest) (sym (line_takes f (flat_map event_line fs ++ last_line n) each.0) ∙ ap line one ∙ line_takes d (flat_map event_line es ++ rest) all.0) in
    let h = splits es fs rest n all.1 each.1 same.1 in
    record { more = h.more; is = ap (λ (x : Event). x ∷ fs) same.0 ∙ ap (λ (xs : List Event). d ∷ xs) h.is; text = h.text; within = h.within }

abbrev history_of : List Event → History
history_of es = record { events = es }

-- the first line, the events' lines and the last line
text_parts : (h : History) → history_text h ≡ first_line ++ (flat_map event_line h.events ++ last_line (length h.events))
unfolding history_text
text_parts h = append_assoc first_line (flat_map event_line h.events) (last_line (length h.events))

abbrev front_of : List Event → List ℕ
front_of es = first_line ++ flat_map event_line es

splits_text : (es : List Event) (rest : List ℕ) (h : History) → AllByRecursion IsEventWithin es → IsWithin h → history_text h ≡ front_of es ++ rest → Splits es h.events rest (length h.events)
splits_text es rest h all w e =
    splits es h.events rest (length h.events) all w.events
    (cancel first_line (flat_map event_line h.events ++ last_line (length h.events)) (flat_map event_line es ++ rest) (sym (text_parts h) ∙ e ∙ append_assoc first_line (flat_map event_line es) rest))

within_of : (es : List Event) → IsU32 (length es) → AllByRecursion IsEventWithin es → IsWithin (history_of es)
within_of es few all = record { count = few; events = all }

front_whole : (es : List Event) → AllByRecursion IsEventWithin es → IsWhole (1 + length es) (front_of es)
front_whole es all = more_lines 1 (length es) first_line (flat_map event_line es) (one_line (codes "pulse-history 1") refl) (lines_whole es all)

-- ---- the three refusals

pub first_refused : (bytes : List ℕ) (s : Stop) → word first_line bytes ≡ Err s → IsRefusedLine bytes 1
first_refused bytes s e =
    refused_behind 0 bytes [] bytes refl no_line
    (history_of [], history_text (history_of []), record { within = within_of [] (omega arith) tt; text = refl })
    (λ h more w text. inr (
      codes "pulse-history 1",
      flat_map event_line h.events ++ last_line (length h.events),
      sym text ∙ text_parts h,
      refl,
      λ behind is. ok_or_err (word first_line bytes) (tt, behind) s (ap (word first_line) is ∙ word_takes first_line behind) e,
    ))

module _ (bytes : List ℕ) (es : List Event) (rest : List ℕ) (s : Stop) (parts : bytes ≡ front_of es ++ rest) (all : AllByRecursion IsEventWithin es) (few : IsU32 (length es)) (ends : line rest ≡ Err s) where
  refutes_next : (t : Stop) → last (length es) rest ≡ Err t → (more : List Event) (n : ℕ) (text : List ℕ) → text ≡ flat_map event_line more ++ last_line n → AllByRecursion IsEventWithin more → n ≡ length (es ++ more) → Refutes rest text
  refutes_next t e [] n text is each count =
      inr (
        codes "end " ++ decimal n,
        [],
        is,
        decimal_inside n (rw (count, append-nil) few),
        λ behind at.
            let same : n ≡ length es = count ∙ ap length (append-nil es) in
            let begins : rest ≡ last_line (length es) ++ behind = at ∙ sym (append_assoc (codes "end " ++ decimal n) (codes "\n") behind) ∙ ap (λ (k : ℕ). last_line k ++ behind) same in
            ok_or_err (last (length es) rest) (done, behind) t (ap (last (length es)) begins ∙ last_takes (length es) behind few) e,
      )
  refutes_next t e (d ∷ more) n text is each count =
      inr (
        event_text d,
        flat_map event_line more ++ last_line n,
        is ∙ ap (λ (b : List ℕ). b ++ last_line n) (flat_map-cons event_line d more) ∙ append_assoc (event_line d) (flat_map event_line more) (last_line n) ∙ append_assoc (event_text d) (codes "\n") (flat_map event_line more ++ last_line n),
        event_inside d each.0,
        λ behind at.
            let begins : rest ≡ event_line d ++ behind = at ∙ sym (append_assoc (event_text d) (codes "\n") behind) in
            ok_or_err (line rest) (d, behind) s (ap line begins ∙ line_takes d behind each.0) ends,
      )

  pub next_refused : (t : Stop) → last (length es) rest ≡ Err t → IsRefusedLine bytes (length es + 2)
  next_refused t e =
      let k : 1 + length es + 1 ≡ length es + 2 = omega arith in
      subst (IsRefusedLine bytes) k
      (refused_behind (1 + length es) bytes (front_of es) rest parts (front_whole es all)
      (history_of es, last_line (length es), record { within = within_of es few all; text = append_assoc first_line (flat_map event_line es) (last_line (length es)) ∙ sym (text_parts (history_of es)) })
      (λ h more w text. let p = splits_text es more h all w text in refutes_next t e p.more (length h.events) more p.text p.within (ap length p.is)))

  refutes_end : (behind : List ℕ) → (behind ≡ [] → ⊥) → (text : List ℕ) (more : List Event) (n : ℕ) → last_line (length es) ++ text ≡ flat_map event_line more ++ last_line n → AllByRecursion IsEventWithin more → n ≡ length (es ++ more) → Refutes behind text
  refutes_end behind some text [] n is each count =
      let same : n ≡ length es = count ∙ ap length (append-nil es) in
      inl (cancel (last_line (length es)) text [] (is ∙ ap last_line same ∙ sym (append-nil (last_line (length es)))), some)
  refutes_end behind some text (d ∷ more) n is each count =
      let begins : last_line (length es) ++ text ≡ event_line d ++ (flat_map event_line more ++ last_line n) = is ∙ ap (λ (b : List ℕ). b ++ last_line n) (flat_map-cons event_line d more) ∙ append_assoc (event_line d) (flat_map event_line more) (last_line n) in
      let none = last_is_none (length es) text in
      absurd (ok_or_err (line (last_line (length es) ++ text)) (d, flat_map event_line more ++ last_line n) none.0 (ap line begins ∙ line_takes d (flat_map event_line more ++ last_line n) each.0) none.1)

  pub end_refused : (behind : List ℕ) → last (length es) rest ≡ Ok (done, behind) → (behind ≡ [] → ⊥) → IsRefusedLine bytes (length es + 3)
  end_refused behind e some =
      let k : 1 + length es + 1 + 1 ≡ length es + 3 = omega arith in
      let whole_text : bytes ≡ history_text (history_of es) ++ behind =
      parts ∙ ap (λ (b : List ℕ). front_of es ++ b) (last_found (length es) rest done behind e)
      ∙ sym (append_assoc (front_of es) (last_line (length es)) behind) ∙ ap (λ (b : List ℕ). b ++ behind) (append_assoc first_line (flat_map event_line es) (last_line (length es)) ∙ sym (text_parts (history_of es))) in
      subst (IsRefusedLine bytes) k
      (refused_behind (1 + length es + 1) bytes (history_text (history_of es)) behind whole_text
      (subst (IsWhole (1 + length es + 1)) (append_assoc first_line (flat_map event_line es) (last_line (length es)) ∙ sym (text_parts (history_of es)))
      (more_lines (1 + length es) 1 (front_of es) (last_line (length es)) (front_whole es all) (one_line (codes "end " ++ decimal (length es)) (decimal_inside (length es) few))))
      (history_of es, [], record { within = within_of es few all; text = append-nil (history_text (history_of es)) })
      (λ h more w text.
      let p = splits_text es (last_line (length es) ++ more) h all w (text ∙ ap (λ (b : List ℕ). b ++ more) (text_parts (history_of es) ∙ sym (append_assoc first_line (flat_map event_line es) (last_line (length es)))) ∙ append_assoc (front_of es) (last_line (length es)) more) in
      refutes_end behind some more p.more (length h.events) p.text p.within (ap length p.is)))

  pub whole_read : last (length es) rest ≡ Ok (done, []) → IsTextOf (history_of es) bytes
  whole_read e = record {
    within = within_of es few all;
    text = parts ∙ ap (λ (b : List ℕ). front_of es ++ b) (last_found (length es) rest done [] e ∙ append-nil (last_line (length es))) ∙ append_assoc first_line (flat_map event_line es) (last_line (length es)) ∙ sym (text_parts (history_of es));
  }

-- ---- one history a text

only_end : (es more : List Event) (n m : ℕ) → last_line m ≡ flat_map event_line more ++ last_line n → AllByRecursion IsEventWithin more → more ≡ []
only_end es [] n m is each = refl
only_end es (d ∷ more) n m is each =
    let begins : last_line m ≡ event_line d ++ (flat_map event_line more ++ last_line n) = is ∙ ap (λ (b : List ℕ). b ++ last_line n) (flat_map-cons event_line d more) ∙ append_assoc (event_line d) (flat_map event_line more) (last_line n) in
    let none = last_is_none m [] in
    absurd (ok_or_err (line (last_line m ++ [])) (d, flat_map event_line more ++ last_line n) none.0 (ap line (append-nil (last_line m) ∙ begins) ∙ line_takes d (flat_map event_line more ++ last_line n) each.0) none.1)

-- two histories with one text are the same
pub one_history : (g h : History) (bytes : List ℕ) → IsTextOf g bytes → IsTextOf h bytes → g ≡ h
one_history g h bytes s t =
    let p = splits_text g.events (last_line (length g.events)) h s.within.events t.within
    (sym t.text ∙ s.text ∙ text_parts g ∙ sym (append_assoc first_line (flat_map event_line g.events) (last_line (length g.events)))) in
    let none = only_end g.events p.more (length h.events) (length g.events) p.text p.within in
    sym (ap history_of (p.is ∙ ap (λ (xs : List Event). g.events ++ xs) none ∙ append-nil g.events))

front_at : (n c : ℕ) (bytes : List ℕ) (t : Bool) → (c == 10) ≡ t → (more : List ℕ) × (first_lines n bytes ++ more ≡ bytes) → (more : List ℕ) × (first_lines (suc n) bytes ++ more ≡ bytes) → (more : List ℕ) × (first_lines (suc n) (c ∷ bytes) ++ more ≡ c ∷ bytes)
front_at n c bytes true is f g = (f.0, rw is (ap (λ (xs : List ℕ). c ∷ xs) f.1))
front_at n c bytes false is f g = (g.0, rw is (ap (λ (xs : List ℕ). c ∷ xs) g.1))

first_front : (n : ℕ) (bytes : List ℕ) → (more : List ℕ) × (first_lines n bytes ++ more ≡ bytes)
first_front n [] = ([], refl)
first_front zero (c ∷ bytes) = (c ∷ bytes, refl)
first_front (suc n) (c ∷ bytes) = front_at n c bytes (c == 10) refl (first_front n bytes) (first_front (suc n) bytes)

-- with fewer lines a text begins a history too
fewer_at : (m n c : ℕ) (bytes : List ℕ) → m ≤ n → (t : Bool) → (c == 10) ≡ t → ((k j : ℕ) → k ≤ j → (more : List ℕ) × (first_lines j bytes ≡ first_lines k bytes ++ more)) → (more : List ℕ) × (first_lines n (c ∷ bytes) ≡ first_lines m (c ∷ bytes) ++ more)
fewer_at zero n c bytes le t is ih = (first_lines n (c ∷ bytes), refl)
fewer_at (suc m) zero c bytes le t is ih = absurd (omega arith)
fewer_at (suc m) (suc n) c bytes le true is ih = let h = ih m n (omega arith) in (h.0, rw is (ap (λ (xs : List ℕ). c ∷ xs) h.1))
fewer_at (suc m) (suc n) c bytes le false is ih = let h = ih (suc m) (suc n) le in (h.0, rw is (ap (λ (xs : List ℕ). c ∷ xs) h.1))

fewer : (bytes : List ℕ) (m n : ℕ) → m ≤ n → (more : List ℕ) × (first_lines n bytes ≡ first_lines m bytes ++ more)
fewer [] m n le = ([], refl)
fewer (c ∷ bytes) m n le = fewer_at m n c bytes le (c == 10) refl (λ k j. fewer bytes k j)

begins_fewer : (bytes : List ℕ) (m n : ℕ) → m ≤ n → BeginsHistory (first_lines n bytes) → BeginsHistory (first_lines m bytes)
begins_fewer bytes m n le b =
    let f = fewer bytes m n le in
    (b.0, f.0 ++ b.1, subst (IsTextOf b.0) (ap (λ (xs : List ℕ). xs ++ b.1) f.1 ∙ append_assoc (first_lines m bytes) f.0 b.1) b.2)

not_before : (bytes : List ℕ) (m n : ℕ) → IsRefusedLine bytes m → IsRefusedLine bytes n → m < n → ⊥
not_before bytes m n r s lt = r.wrong (omega (arith, s.there)) (begins_fewer bytes m (n - 1) (omega arith) s.right)

one_line_by : (bytes : List ℕ) (m n : ℕ) → IsRefusedLine bytes m → IsRefusedLine bytes n → (t u : Bool) → nat_lt m n ≡ t → nat_lt n m ≡ u → m ≡ n
one_line_by bytes m n r s true u is at = absurd (not_before bytes m n r s (ltb-true m n is))
one_line_by bytes m n r s false true is at = absurd (not_before bytes n m s r (ltb-true n m at))
one_line_by bytes m n r s false false is at = let a = ltb-false m n is in let b = ltb-false n m at in omega arith

-- one line is refused
pub one_refused : (bytes : List ℕ) (m n : ℕ) → IsRefusedLine bytes m → IsRefusedLine bytes n → m ≡ n
one_refused bytes m n r s = one_line_by bytes m n r s (nat_lt m n) (nat_lt n m) refl refl

never_by : (bytes : List ℕ) (n : ℕ) (h : History) → IsRefusedLine bytes n → IsTextOf h bytes → (t : Bool) → nat_lt (line_ends bytes) n ≡ t → ⊥
never_by bytes n h r t true past = let lt = ltb-true (line_ends bytes) n past in r.missing (omega (arith, r.there)) h t
never_by bytes n h r t false inside =
    let le : n ≤ line_ends bytes = ltb-false (line_ends bytes) n inside in
    let f = first_front n bytes in
    r.wrong le (h, f.0, subst (IsTextOf h) (sym f.1) t)

-- a text of a history has no line that is refused
pub never_refused : (bytes : List ℕ) (n : ℕ) (h : History) → IsRefusedLine bytes n → IsTextOf h bytes → ⊥
never_refused bytes n h r t = never_by bytes n h r t (nat_lt (line_ends bytes) n) refl

-- ---- the answers

pub refused_header : (bytes : List ℕ) (e : ReadError) → Fails e (word first_line bytes) → IfBadHistory (error_at e 1) (IsRefusedLine bytes)
refused_header bytes (read.Stop s) f = first_refused bytes s f
refused_header bytes read.Memory f = tt

header_parts : (bytes body : List ℕ) → word first_line bytes ≡ Ok (done, body) → bytes ≡ first_line ++ body
header_parts bytes body e = ((exact_word first_line).found bytes done body e).1

module _ (bytes body : List ℕ) (es : List Event) (rest : List ℕ) (header : word first_line bytes ≡ Ok (done, body)) (lines : AreLines body es rest) where
  front_parts : bytes ≡ front_of es ++ rest
  front_parts = header_parts bytes body header ∙ ap (λ (b : List ℕ). first_line ++ b) lines.parts ∙ sym (append_assoc first_line (flat_map event_line es) rest)

  -- there are fewer events than bytes
  pub count_small : length es + 16 ≤ length bytes
  count_small = omega (arith, lines_long es, ap length front_parts, length-append (front_of es) rest, length-append first_line (flat_map event_line es))

  module _ (small : length bytes < 2 ^ 32 - 1) (n : ℕ) (count : n ≡ length es) where
    few : IsU32 (length es)
    few = omega (arith, count_small)

    pub refused_last : (e : ReadError) → Fails e (last n rest) → IfBadHistory (error_at e (n + 2)) (IsRefusedLine bytes)
    refused_last (read.Stop s) f =
        let e : last (length es) rest ≡ Err s = ap (λ m. last m rest) (sym count) ∙ f in
        subst (λ m. IsRefusedLine bytes (m + 2)) (sym count) (next_refused bytes es rest lines.stop front_parts lines.within few lines.ends s e)
    refused_last read.Memory f = tt

    pub refused_behind_end : (behind : List ℕ) → last n rest ≡ Ok (done, behind) → (behind ≡ [] → ⊥) → IsRefusedLine bytes (n + 3)
    refused_behind_end behind f some =
        let e : last (length es) rest ≡ Ok (done, behind) = ap (λ m. last m rest) (sym count) ∙ f in
        subst (λ m. IsRefusedLine bytes (m + 3)) (sym count) (end_refused bytes es rest lines.stop front_parts lines.within few lines.ends behind e some)

    pub text_read : (behind : List ℕ) → last n rest ≡ Ok (done, behind) → behind ≡ [] → IsTextOf (history_of es) bytes
    text_read behind f none =
        let e : last (length es) rest ≡ Ok (done, []) = ap (λ m. last m rest) (sym count) ∙ f ∙ ap (λ (b : List ℕ). Ok (done, b)) none in
        whole_read bytes es rest lines.stop front_parts lines.within few lines.ends e

pub exact_err : (bytes : List ℕ) (e : HistoryError) → IfBadHistory e (IsRefusedLine bytes) → (h : History) → IsTextOf h bytes → IsReadAs (Err e) h
exact_err bytes (error.BadHistory n) r h t = never_refused bytes n h r t
exact_err bytes error.Memory r h t = tt

-- ---- the lines of events, one more at a time

one_more : (es : List Event) (e : Event) (after : List ℕ) → flat_map event_line es ++ (event_line e ++ after) ≡ flat_map event_line (es ++ e ∷ []) ++ after
one_more [] e after = ap (λ (b : List ℕ). b ++ after) (sym (flat_map-cons event_line e [] ∙ append-nil (event_line e)))
one_more (d ∷ es) e after =
    ap (λ (b : List ℕ). b ++ (event_line e ++ after)) (flat_map-cons event_line d es) ∙ append_assoc (event_line d) (flat_map event_line es) (event_line e ++ after)
    ∙ ap (λ (b : List ℕ). event_line d ++ b) (one_more es e after) ∙ sym (append_assoc (event_line d) (flat_map event_line (es ++ e ∷ [])) after)
    ∙ ap (λ (b : List ℕ). b ++ after) (sym (flat_map-cons event_line d (es ++ e ∷ [])))

all_more : (es : List Event) (e : Event) → AllByRecursion IsEventWithin es → IsEventWithin e → AllByRecursion IsEventWithin (es ++ e ∷ [])
all_more [] e all one = (one, tt)
all_more (d ∷ es) e all one = (all.0, all_more es e all.1 one)

-- so far all are lines of events
pub record SoFar (bytes : List ℕ) (es : List Event) (rest : List ℕ) : Type 0 where
  pub parts : bytes ≡ flat_map event_line es ++ rest
  pub within : AllByRecursion IsEventWithin es

pub far_first : (bytes : List ℕ) (es : List Event) → es ≡ [] → SoFar bytes es bytes
far_first bytes es none = rw none (record { parts = refl; within = tt })

pub far_more : (bytes : List ℕ) (es all : List Event) (rest after : List ℕ) (e : Event) → SoFar bytes es rest → line rest ≡ Ok (e, after) → all ≡ es ++ e ∷ [] → SoFar bytes all after
far_more bytes es all rest after e s h is =
    let f = line_found rest e after h in
    rw is (record {
      parts = s.parts ∙ ap (λ (b : List ℕ). flat_map event_line es ++ b) f.1 ∙ one_more es e after;
      within = all_more es e s.within f.0;
    })

pub far_shorter : (rest after : List ℕ) (e : Event) → line rest ≡ Ok (e, after) → length after < length rest
far_shorter rest after e h =
    let f = line_found rest e after h in
    omega (arith, ap length f.1, length-append (event_line e) after, length-append (event_text e) (codes "\n"))

pub far_last : (bytes : List ℕ) (es : List Event) (rest : List ℕ) (s : Stop) → SoFar bytes es rest → line rest ≡ Err s → AreLines bytes es rest
far_last bytes es rest s f e = record { parts = f.parts; within = f.within; stop = s; ends = e }

pub is_empty_is : (xs : List ℕ) (r : Bool) → r ≡ (length xs == 0) → r ≡ true → xs ≡ []
is_empty_is [] r h e = refl
is_empty_is (x ∷ xs) r h e = absurd (omega (arith, eqb-true (length (x ∷ xs)) 0 (sym h ∙ e)))

pub not_empty_is : (xs : List ℕ) (r : Bool) → r ≡ (length xs == 0) → r ≡ false → xs ≡ [] → ⊥
not_empty_is xs r h e none = true_or_false r (h ∙ ap (λ (ys : List ℕ). length ys == 0) none) e
