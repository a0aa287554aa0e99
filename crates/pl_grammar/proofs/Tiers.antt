-- The tiers of expressions, each over the one below it.
use Rattle.std.proofs.Common.{◌≡◌, ℕ, suc, ◌≤◌, true, List, [], Some, refl}
use Rattle.pl_readers.specs.Language.{Language, One, HasText, Starts}
use Rattle.pl_readers.specs.Reader.{Reader}
use Rattle.pl_readers.specs.Reads.{Reads}
use Rattle.pl_readers.proofs.Firsts.{Starts-then}
use Rattle.pl_syntax.specs.declared.expr.BinOp.{BinOp}
use Rattle.pl_syntax.specs.declared.expr.BinOp.TheVariants as op
use Rattle.pl_lexer.specs.declared.tokens.Kind.TheVariants as k
use Rattle.pl_lexer.specs.declared.tokens.Token.{Token}
use Rattle.pl_grammar.specs.Signs.{Set, token_in, both, signs, signs_of, entry_of}
use Rattle.pl_grammar.specs.Grammar.{Part, Chain, Chained, Optional, Single, times, plus, relation, conjunction, disjunction, implication, TermOf, SumOf, CompareOf, AndOf, OrOf, ExprOf}
use Rattle.pl_grammar.specs.Readers.{operands, chained, single, term_of, sum_of, compare_of, and_of, or_of, expr_of}
use Rattle.pl_grammar.proofs.Sets.{apart, inside, token, tokens}
use Rattle.pl_grammar.proofs.Levels.{reads_chained, some_chained, chained_keeps, reads_single, some_single, single_keeps}

-- texts of T are read by P; V has the texts of two more levels, and g is with what a text may go on
pub record IsRead (depth : ℕ) (T V : ℕ → Language Token Part) (g : Set) (P : ℕ → Reader Token Part) : Type 0 where
  pub reads : (used : ℕ) → used ≤ depth → Reads (T used) (V used) (token_in g) (P used)
  pub keeps : (used : ℕ) → used ≤ depth → (a : Part) (text : List Token) → T used a text → a.used ≤ depth
  pub some : (used : ℕ) → HasText (V used)
  pub starts : (used : ℕ) → Starts (token_in operands) (T used)

module _ (ops : List (ℕ × BinOp)) (depth : ℕ) (T V : ℕ → Language Token Part) (g goes : Set) (P : ℕ → Reader Token Part) (p : IsRead depth T V g P)
    (some_op : HasText (One (entry_of ops))) (op_apart : apart (signs_of ops) g ≡ true) (op_inside : inside (signs_of ops) goes ≡ true) (g_inside : inside g goes ≡ true) where
  pub chained_read : IsRead depth (Chained ops depth T) (Chained ops (suc (suc depth)) V) goes (chained ops depth P)
  chained_read = record {
    reads = reads_chained ops depth T V g goes P p.reads p.keeps p.some some_op op_apart op_inside g_inside;
    keeps = chained_keeps ops depth T V g goes P p.reads p.keeps p.some some_op op_apart op_inside g_inside;
    some = some_chained ops depth T V g goes P p.reads p.keeps p.some some_op op_apart op_inside g_inside;
    starts = λ used. Starts-then (token_in operands) (T used) (Chain ops T depth depth) (p.starts used);
  }

  pub single_read : IsRead depth (Single ops depth T) (Single ops (suc (suc depth)) V) goes (single ops depth P)
  single_read = record {
    reads = reads_single ops depth T V g goes P p.reads p.keeps p.some some_op op_apart op_inside g_inside;
    keeps = single_keeps ops depth T V g goes P p.reads p.keeps p.some some_op op_apart op_inside g_inside;
    some = some_single ops depth T V g goes P p.reads p.keeps p.some some_op op_apart op_inside g_inside;
    starts = λ used. Starts-then (token_in operands) (T used) (Optional ops T depth) (p.starts used);
  }

-- with what each tier may go on
abbrev pub goes_unary : Set
goes_unary = signs []

abbrev pub goes_term : Set
goes_term = signs_of times

abbrev pub goes_sum : Set
goes_sum = both goes_term (signs_of plus)

abbrev pub goes_compare : Set
goes_compare = both goes_sum (signs_of relation)

abbrev pub goes_and : Set
goes_and = both goes_compare (signs_of conjunction)

abbrev pub goes_or : Set
goes_or = both goes_and (signs_of disjunction)

abbrev pub goes_expr : Set
goes_expr = both goes_or (signs_of implication)

-- the text of one operator
abbrev pub op_text : (ops : List (ℕ × BinOp)) (n : ℕ) (o : BinOp) → entry_of ops (token (k.Sign n)) ≡ Some o → HasText (One (entry_of ops))
op_text ops n o e = (o, tokens (k.Sign n), (token (k.Sign n), refl, e))

module _ (depth : ℕ) (U V : ℕ → Language Token Part) (P : ℕ → Reader Token Part) (p : IsRead depth U V goes_unary P) where
  pub term_read : IsRead depth (TermOf depth U) (TermOf (suc (suc depth)) V) goes_term (term_of depth P)
  unfolding term_of
  term_read = chained_read times depth U V goes_unary goes_term P p (op_text times 17 op.Mul refl) refl refl refl

  pub sum_read : IsRead depth (SumOf depth U) (SumOf (suc (suc depth)) V) goes_sum (sum_of depth P)
  unfolding sum_of
  sum_read = chained_read plus depth (TermOf depth U) (TermOf (suc (suc depth)) V) goes_term goes_sum (term_of depth P) term_read (op_text plus 15 op.Add refl) refl refl refl

  pub compare_read : IsRead depth (CompareOf depth U) (CompareOf (suc (suc depth)) V) goes_compare (compare_of depth P)
  unfolding compare_of
  compare_read = single_read relation depth (SumOf depth U) (SumOf (suc (suc depth)) V) goes_sum goes_compare (sum_of depth P) sum_read (op_text relation 20 op.Lt refl) refl refl refl

  pub and_read : IsRead depth (AndOf depth U) (AndOf (suc (suc depth)) V) goes_and (and_of depth P)
  unfolding and_of
  and_read = chained_read conjunction depth (CompareOf depth U) (CompareOf (suc (suc depth)) V) goes_compare goes_and (compare_of depth P) compare_read (op_text conjunction 26 op.And refl) refl refl refl

  pub or_read : IsRead depth (OrOf depth U) (OrOf (suc (suc depth)) V) goes_or (or_of depth P)
  unfolding or_of
  or_read = chained_read disjunction depth (AndOf depth U) (AndOf (suc (suc depth)) V) goes_and goes_or (and_of depth P) and_read (op_text disjunction 27 op.Or refl) refl refl refl

  pub expr_read : IsRead depth (ExprOf depth U) (ExprOf (suc (suc depth)) V) goes_expr (expr_of depth P)
  unfolding expr_of
  expr_read = single_read implication depth (OrOf depth U) (OrOf (suc (suc depth)) V) goes_or goes_expr (or_of depth P) or_read (op_text implication 28 op.Implies refl) refl refl refl
