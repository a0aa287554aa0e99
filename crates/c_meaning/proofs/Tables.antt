-- A table that grows keeps its blocks.
use Rattle.std.proofs.Common.{◌≡◌, ℕ, zero, suc, ◌≤◌, ◌<◌, ◌^◌, arith, List, [], ◌∷◌, ◌++◌, Some, None, refl, sym, ap, ◌∙◌, length, slice_get, subst, inl, inr, ◌⊎◌}
use Rattle.std.specs.Prelude.{max}
use Rattle.c_meaning.specs.Tree.{Stmt, Stmts, If, While, end, more, both}
use Rattle.c_meaning.specs.Tree as t
use Rattle.c_meaning.specs.Local.{nest, nest_one}
use Rattle.c_meaning.specs.Tree.{greatest, greatest_one}
use Rattle.c_meaning.specs.Blocks.{stmt_of, stmts_of, ops_of, ops_at, tree_by, tree, below_one, all_below, IsTable}
use Rattle.c_meaning.specs.Compiled.{Extends, Compiled, CompiledOne, Begun, Added}
use Rattle.c_syntax.specs.Tree as c
use Rattle.c_meaning.specs.Resolve.{Names, before_last}
use Rattle.c_meaning.specs.declared.term.Basic.{Basic}
use Rattle.c_meaning.specs.Plain.{plain_basic}
use Rattle.c_meaning.specs.Tree.{Do}
use Rattle.c_meaning.proofs.Lefts.{both_assoc, both_end, stmt_agree, stmts_agree, tree_is}
use Rattle.c_meaning.proofs.Rooms.{length_snoc}
use Rattle.c_meaning.specs.Plain.{plain_term}
use Rattle.c_meaning.specs.declared.term.Term.{Term}
use Rattle.c_meaning.specs.declared.code.Op.{Op}
use Rattle.c_meaning.specs.declared.code.Op.TheVariants as op
use Rattle.c_meaning.specs.declared.code.Block.{Block}

pub extends_refl : (T : List Block) → Extends T T
extends_refl T = record { more = []; is = nil T }
  where
    nil : (T : List Block) → T ≡ T ++ []
    nil [] = refl
    nil (b ∷ T) = ap (λ z. b ∷ z) (nil T)

append_assoc : {A : Type 0} (xs ys zs : List A) → (xs ++ ys) ++ zs ≡ xs ++ (ys ++ zs)
append_assoc [] ys zs = refl
append_assoc (x ∷ xs) ys zs = ap (λ z. x ∷ z) (append_assoc xs ys zs)

pub extends_trans : (T U V : List Block) → Extends T U → Extends U V → Extends T V
extends_trans T U V a b = record { more = a.more ++ b.more; is = b.is ∙ (ap (λ z. z ++ b.more) a.is ∙ append_assoc T a.more b.more) }

get_front : (T U : List Block) (k : ℕ) → k < length T → slice_get (T ++ U) k ≡ slice_get T k
get_front [] U k h = absurd (omega (arith, h))
get_front (b ∷ T) U zero h = refl
get_front (b ∷ T) U (suc k) h = get_front T U k (omega (arith, h))

ops_front : (T U : List Block) (k : ℕ) → k < length T → ops_at (T ++ U) k ≡ ops_at T k
ops_front T U k h = ap ops_of (get_front T U k h)

by_same : (T U : List Block) → IsTable T → (n k : ℕ) → k < length T → tree_by n (T ++ U) k ≡ tree_by n T k
by_same T U is zero k h = refl
by_same T U is (suc n) k h =
    ap (stmts_of (tree_by n (T ++ U))) (ops_front T U k h)
    ∙ stmts_agree (tree_by n (T ++ U)) (tree_by n T) k (ops_at T k) (λ i lt. by_same T U is n i (omega (arith, lt, h))) (is.ordered k)

pub tree_same : (T U : List Block) → IsTable T → Extends T U → (k : ℕ) → k < length T → tree U k ≡ tree T k
tree_same T U is e k h = ap (λ z. tree z k) e.is ∙ by_same T e.more is (suc k) k h

pub stmt_same : (T U : List Block) → IsTable T → Extends T U → (o : Op) → below_one (length T) o → stmt_of (tree U) o ≡ stmt_of (tree T) o
stmt_same T U is e o h = stmt_agree (tree U) (tree T) (length T) o (tree_same T U is e) h

pub stmts_same : (T U : List Block) → IsTable T → Extends T U → (os : List Op) → all_below (length T) os → stmts_of (tree U) os ≡ stmts_of (tree T) os
stmts_same T U is e os h = stmts_agree (tree U) (tree T) (length T) os (tree_same T U is e) h

below_more : (m n : ℕ) → m ≤ n → (o : Op) → below_one m o → below_one n o
below_more m n h (op.If e a b) k = (omega (arith, h, k.0), omega (arith, h, k.1))
below_more m n h (op.While l e b) k = (omega (arith, h, k.0), omega (arith, h, k.1))
below_more m n h (op.Let x e) k = tt
below_more m n h (op.Do a) k = tt

all_more : (m n : ℕ) → m ≤ n → (os : List Op) → all_below m os → all_below n os
all_more m n h [] k = tt
all_more m n h (o ∷ os) k = (below_more m n h o k.0, all_more m n h os k.1)

all_snoc : (n : ℕ) (os : List Op) (o : Op) → all_below n os → below_one n o → all_below n (os ++ o ∷ [])
all_snoc n [] o h k = (k, tt)
all_snoc n (x ∷ os) o h k = (h.0, all_snoc n os o h.1 k)

length_append : (T U : List Block) → length T ≤ length (T ++ U)
length_append [] U = omega arith
length_append (b ∷ T) U = omega (arith, length_append T U)

pub longer : (T U : List Block) → Extends T U → length T ≤ length U
longer T U e = subst (λ z. length T ≤ length z) (sym e.is) (length_append T e.more)

stmts_snoc : (t : ℕ → Stmts) (os : List Op) (o : Op) (rest : Stmts) → both (stmts_of t (os ++ o ∷ [])) rest ≡ both (stmts_of t os) (more (stmt_of t o) rest)
stmts_snoc t [] o rest = refl
stmts_snoc t (x ∷ os) o rest = ap (more (stmt_of t x)) (stmts_snoc t os o rest)

-- the blocks of these operations are made, and those of the rest are not yet
pub record Making (T U : List Block) (whole : Stmts) (os : List Op) (rest : Stmts) (depth top : ℕ) : Type 0 where
  pub extends : Extends T U
  pub table : IsTable U
  pub below : all_below (length U) os
  pub same : whole ≡ both (stmts_of (tree U) os) rest
  pub deep : nest whole ≡ max depth (nest rest)
  pub most : greatest whole ≡ max top (greatest rest)

nest_both : (a b : Stmts) → nest (both a b) ≡ max (nest a) (nest b)
nest_both end b = omega arith
nest_both (more s a) b = omega (arith, nest_both a b)

greatest_both : (a b : Stmts) → greatest (both a b) ≡ max (greatest a) (greatest b)
greatest_both end b = omega arith
greatest_both (more s a) b = omega (arith, greatest_both a b)

pub made_one : (T U V : List Block) (whole : Stmts) (os os' : List Op) (b : Stmts) (s : Stmt) (rest : Stmts) (depth deep next top most last : ℕ) (o : Op) → Making T U whole os (both b (more s rest)) depth top → Begun os os' b → nest b ≡ 0 → greatest b ≡ 0 → CompiledOne U V s o deep most → next ≡ max depth deep → last ≡ max top most → Making T V whole (os' ++ o ∷ []) rest next last
made_one T U V whole os os' b s rest depth deep next top most last o m g flat unbound c n l =
    let inner : nest (both b (more s rest)) ≡ max (nest b) (nest (more s rest)) = nest_both b (more s rest) in
    let bound : greatest (both b (more s rest)) ≡ max (greatest b) (greatest (more s rest)) = greatest_both b (more s rest) in
    let here : whole ≡ both (stmts_of (tree U) os') (more s rest) = m.same ∙ (sym (both_assoc (stmts_of (tree U) os) b (more s rest)) ∙ ap (λ z. both z (more s rest)) (sym (g.same (tree U)))) in record {
      extends = extends_trans T U V m.extends c.extends;
      table = c.table;
      below = all_snoc (length V) os' o (all_more (length U) (length V) (longer U V c.extends) os' (g.below (length U) m.below)) c.below;
      same = here ∙ (cc (stmts_same U V m.table c.extends os' (g.below (length U) m.below), c.same) ∙ sym (stmts_snoc (tree V) os' o rest));
      deep = omega (arith, m.deep, n, c.deep, inner, flat);
      most = omega (arith, m.most, l, c.most, bound, unbound);
    }

get_last : (T : List Block) (b : Block) → slice_get (T ++ b ∷ []) (length T) ≡ Some b
get_last [] b = refl
get_last (x ∷ T) b = get_last T b

get_past : (T : List Block) (b : Block) (k : ℕ) → length T < k → slice_get (T ++ b ∷ []) k ≡ None
get_past [] b zero h = absurd (omega (arith, h))
get_past [] b (suc zero) h = refl
get_past [] b (suc (suc k)) h = refl
get_past (x ∷ T) b zero h = absurd (omega (arith, h))
get_past (x ∷ T) b (suc k) h = get_past T b k (omega (arith, h))

pub table_nil : IsTable []
table_nil = record { ordered = λ k. none k; few = λ k. short k }
  where
    none : (k : ℕ) → all_below k (ops_at [] k)
    none zero = tt
    none (suc k) = tt

    short : (k : ℕ) → length (ops_at [] k) < 2 ^ 32
    short zero = omega arith
    short (suc k) = omega arith

kinds : (T : List Block) (b : Block) (k : ℕ) → (ops_at (T ++ b ∷ []) k ≡ ops_at T k) ⊎ ((k ≡ length T) × (ops_at (T ++ b ∷ []) k ≡ b.ops))
kinds [] b zero = inr (refl, refl)
kinds [] b (suc zero) = inl refl
kinds [] b (suc (suc k)) = inl refl
kinds (x ∷ T) b zero = inl refl
kinds (x ∷ T) b (suc k) = elim (kinds T b k) [ inl e ↦ inl e | inr r ↦ inr (ap suc r.0, r.1) ]

pub table_more : (T : List Block) (b : Block) → IsTable T → all_below (length T) b.ops → length b.ops < 2 ^ 32 → IsTable (T ++ b ∷ [])
table_more T b is below few = record { ordered = λ k. in_order k (kinds T b k); few = λ k. is_few k (kinds T b k) }
  where
    in_order : (k : ℕ) → (ops_at (T ++ b ∷ []) k ≡ ops_at T k) ⊎ ((k ≡ length T) × (ops_at (T ++ b ∷ []) k ≡ b.ops)) → all_below k (ops_at (T ++ b ∷ []) k)
    in_order k (inl e) = subst (all_below k) (sym e) (is.ordered k)
    in_order k (inr r) = subst (all_below k) (sym r.1) (subst (λ z. all_below z b.ops) (sym r.0) below)

    is_few : (k : ℕ) → (ops_at (T ++ b ∷ []) k ≡ ops_at T k) ⊎ ((k ≡ length T) × (ops_at (T ++ b ∷ []) k ≡ b.ops)) → length (ops_at (T ++ b ∷ []) k) < 2 ^ 32
    is_few k (inl e) = subst (λ z. length z < 2 ^ 32) (sym e) (is.few k)
    is_few k (inr r) = subst (λ z. length z < 2 ^ 32) (sym r.1) few

-- the block itself, once all its operations are made
pub made_block : (T U V : List Block) (whole : Stmts) (os : List Op) (depth top k : ℕ) → Making T U whole os end depth top → k ≡ length U → length os < 2 ^ 32 → V ≡ U ++ record { ops = os } ∷ [] → Compiled T V whole k depth top
made_block T U V whole os depth top k m at few is =
    let b : Block = record { ops = os } in
    let table : IsTable (U ++ b ∷ []) = table_more U b m.table m.below few in
    let grown : Extends U (U ++ b ∷ []) = record { more = b ∷ []; is = refl } in
    let last : tree (U ++ b ∷ []) (length U) ≡ stmts_of (tree (U ++ b ∷ [])) os = tree_is (U ++ b ∷ []) table (length U) ∙ ap (λ z. stmts_of (tree (U ++ b ∷ [])) (ops_of z)) (get_last U b) in
    let now : Compiled T (U ++ b ∷ []) whole (length U) depth top = record {
      extends = extends_trans T U (U ++ b ∷ []) m.extends grown;
      table = table;
      below = omega (arith, length_snoc U b);
      same = last ∙ (stmts_same U (U ++ b ∷ []) m.table grown os m.below ∙ (sym (both_end (stmts_of (tree U) os)) ∙ sym m.same));
      deep = omega (arith, m.deep);
      most = omega (arith, m.most);
    } in
    subst (λ z. Compiled T z whole k depth top) (sym is) (subst (λ z. Compiled T (U ++ b ∷ []) whole z depth top) (sym at) now)

pub making_none : (T : List Block) (whole : Stmts) → IsTable T → Making T T whole [] whole 0 0
making_none T whole is = record { extends = extends_refl T; table = is; below = tt; same = refl; deep = omega arith; most = omega arith }

module _ (T U V : List Block) (x y : Stmts) (a b l r d m n g : ℕ) (c : Compiled T U x a l m) (f : Compiled U V y b r n) (deep : d ≡ suc (max l r)) (top : g ≡ max m n) (e : Term) where
  first_kept : tree V a ≡ x
  first_kept = tree_same U V c.table f.extends a c.below ∙ c.same

  below_both : (a < length V) × (b < length V)
  below_both = (omega (arith, c.below, longer U V f.extends), f.below)

  pub made_if : (s : Stmt) (e0 : t.Term) → s ≡ If e0 x y → plain_term e ≡ e0 → CompiledOne T V s (op.If e a b) d g
  made_if s e0 is same = record { extends = extends_trans T U V c.extends f.extends; table = f.table; below = below_both; same = cc (first_kept, f.same, is, same); deep = subst (λ z. d ≡ nest_one z) (sym is) (omega (arith, deep, c.deep, f.deep)); most = subst (λ z. g ≡ greatest_one z) (sym is) (omega (arith, top, c.most, f.most)) }

  pub made_while : (s : Stmt) (e0 : t.Term) → s ≡ While x e0 y → plain_term e ≡ e0 → CompiledOne T V s (op.While a e b) d g
  made_while s e0 is same = record { extends = extends_trans T U V c.extends f.extends; table = f.table; below = below_both; same = cc (first_kept, f.same, is, same); deep = subst (λ z. d ≡ nest_one z) (sym is) (omega (arith, deep, c.deep, f.deep)); most = subst (λ z. g ≡ greatest_one z) (sym is) (omega (arith, top, c.most, f.most)) }

-- two operations more
pub two_more : (t : ℕ → Stmts) (os : List Op) (a b : Op) → stmts_of t ((os ++ a ∷ []) ++ b ∷ []) ≡ both (stmts_of t os) (more (stmt_of t a) (more (stmt_of t b) end))
two_more t [] a b = refl
two_more t (x ∷ os) a b = ap (more (stmt_of t x)) (two_more t os a b)

pub all_two : (n : ℕ) (os : List Op) (a b : Op) → all_below n os → below_one n a → below_one n b → all_below n ((os ++ a ∷ []) ++ b ∷ [])
all_two n os a b h i j = all_snoc n (os ++ a ∷ []) b (all_snoc n os a h i) j

begun_none : (os os' : List Op) → os' ≡ os → Begun os os' end
begun_none os os' is = record {
  same = λ t. ap (stmts_of t) is ∙ sym (both_end (stmts_of t os));
  below = λ n h. subst (all_below n) (sym is) h;
}

-- the two operations before the last one of a `par`
pub added_par : (os os' : List Op) (a b : Basic) (x y : t.Basic) → os' ≡ (os ++ op.Do a ∷ []) ++ op.Do b ∷ [] → plain_basic a ≡ x → plain_basic b ≡ y → Begun os os' (more (Do x) (more (Do y) end))
added_par os os' a b x y is e f = record {
  same = λ t. ap (stmts_of t) is ∙ (two_more t os (op.Do a) (op.Do b) ∙ cc (e, f));
  below = λ n h. subst (all_below n) (sym is) (all_two n os (op.Do a) (op.Do b) h tt tt);
}

pub begun : (N : Names) (s : c.Stmt) (os os' : List Op) → Added N s os os' → Begun os os' (before_last N s)
begun N (c.Par f a g o) os os' h = h
begun N (c.Let k x e) os os' h = begun_none os os' h
begun N (c.Load k x c) os os' h = begun_none os os' h
begun N (c.Store c e) os os' h = begun_none os os' h
begun N (c.New k x e) os os' h = begun_none os os' h
begun N (c.NewArray k x e n) os os' h = begun_none os os' h
begun N (c.NewAtomic x e) os os' h = begun_none os os' h
begun N (c.NewStruct x n i) os os' h = begun_none os os' h
begun N (c.Free b) os os' h = begun_none os os' h
begun N (c.AtomicLoad x b) os os' h = begun_none os os' h
begun N (c.AtomicStore b e) os os' h = begun_none os os' h
begun N (c.Cas x b o n) os os' h = begun_none os os' h
begun N (c.NewLock x) os os' h = begun_none os os' h
begun N (c.Acquire l) os os' h = begun_none os os' h
begun N (c.Release l) os os' h = begun_none os os' h
begun N (c.Read x) os os' h = begun_none os os' h
begun N (c.Print e) os os' h = begun_none os os' h
begun N (c.Call f a) os os' h = begun_none os os' h
begun N (c.CallLet k x f a) os os' h = begun_none os os' h
begun N (c.If e a b) os os' h = begun_none os os' h
begun N (c.While l e b) os os' h = begun_none os os' h
begun N (c.Return e) os os' h = begun_none os os' h
