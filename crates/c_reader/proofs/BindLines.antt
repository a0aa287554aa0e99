-- A line that binds a local keeps the rules where it has no breach.
use Rattle.std.proofs.Common.{◌≡◌, ◌∙◌, sym, ap, refl, ℕ, suc, ◌+◌, ◌==◌, ◌&&◌, Bool, Option, Some, None, List, [], ◌∷◌, ◌++◌, length, map}
use Rattle.std.specs.Prelude.{IsSome, ⊤}
use Rattle.std.specs.Cmp.{unsigned_Decides}
use Rattle.std.proofs.lemmas.Bool.{and_parts}
use Rattle.std.proofs.lemmas.List.{length-map}
use Rattle.c_syntax.specs.declared.kind.CType.{CType}
use Rattle.c_syntax.specs.declared.kind.CType.TheVariants as kind
use Rattle.c_syntax.specs.declared.program.CParam.{CParam}
use Rattle.c_syntax.specs.declared.program.CStruct.{CStruct}
use Rattle.c_syntax.specs.Rules.{AreNumbered, HasType, IsValueType, Scope, StmtFits, after, bound_by, element, members_of, typed}
use Rattle.c_syntax.specs.Text.{function_name, type_text}
use Rattle.c_syntax.specs.Tree as t
use Rattle.c_syntax.specs.Tree.{Name}
use Rattle.c_forms.specs.declared.source.Head.{Head}
use Rattle.c_forms.specs.declared.stmt.Maker.{Maker}
use Rattle.c_forms.specs.declared.stmt.Maker.TheVariants as maker
use Rattle.c_forms.specs.declared.word.Local.{Local}
use Rattle.c_forms.specs.Text.{expr_text, local_text, maker_text}
use Rattle.c_forms.specs.Tree as w
use Rattle.c_rules.specs.Kinds.{same_type}
use Rattle.c_rules.specs.Lines.{Known, agrees, array_breaches, bind, binder_breaches, call_of, given, made, made_breaches, right_breaches, settled, swap_breaches, type_breaches, value_breaches, argument_breaches}
use Rattle.c_rules.specs.Sorts.{cell_breaches, held, local_of, local_wanted, named_at, number_of, unless, unless_some, wanted}
use Rattle.c_rules.proofs.ExprRules.{same_is, none_both}
use Rattle.c_reader.specs.Standing.{bind_of, cell_of, expr_of}
use Rattle.c_reader.proofs.Breachless.{holds}
use Rattle.c_reader.proofs.CellTypes.{Heads, calls, loads, local_type}
use Rattle.c_reader.proofs.ExprTypes.{has_type}
use Rattle.c_reader.proofs.Rewritten.{Counted, known_args, known_cell, numbered, wanted_expr, wanted_local}
use Rattle.c_reader.proofs.Written as written

-- ---- binders

some_is : {X : Type 0} (o : Option X) (at : ℕ) → unless_some o at ≡ [] → IsSome o
some_is None at h = cc
some_is (Some x) at h = refl

pub value_type : (structs : List CStruct) (at name : ℕ) (type : CType) → type_breaches (members_of structs) at type ≡ [] → value_breaches name type ≡ [] → IsValueType structs type
value_type structs at name kind.Void h k = cc
value_type structs at name kind.I64 h k = tt
value_type structs at name kind.Bool h k = tt
value_type structs at name kind.PtrI64 h k = tt
value_type structs at name kind.PtrBool h k = tt
value_type structs at name (kind.PtrStruct s) h k = some_is (members_of structs s) (at + 7) h
value_type structs at name kind.PtrAtomic h k = tt
value_type structs at name kind.PtrLock h k = tt

pub record Binder (structs : List CStruct) (next : ℕ) (type : CType) (x : Local) : Type 0 where
  pub value : IsValueType structs type
  pub number : number_of x.number ≡ next

pub binder : (structs : List CStruct) (next at : ℕ) (type : CType) (x : Local) → binder_breaches (members_of structs) next at type x ≡ [] → Binder structs next type x
binder structs next at type x h =
    let name = at + length (type_text type) in
    let A = type_breaches (members_of structs) at type in
    let B = value_breaches name type in
    let C = unless (number_of x.number == next) name in
    let one = none_both (A ++ B) C h in
    let two = none_both A B one.0 in
    record { value = value_type structs at name type two.0 two.1; number = (unsigned_Decides (number_of x.number) next).0 (holds (number_of x.number == next) name one.1) }

-- what is bound behind the line
pub bound_behind : (scope : Scope) (x : Local) (type T : CType) → number_of x.number ≡ scope.next → type ≡ T →
    settled (bind scope x.name type) ≡ settled (record { bound = typed T (local_of x) ∷ scope.bound; next = scope.next + 1 })
bound_behind scope x type T e k =
    ap (λ (n : ℕ). settled (record { bound = typed type (record { name = x.name; number = n }) ∷ scope.bound; next = scope.next + 1 })) (sym e)
    ∙ ap (λ (u : CType). settled (record { bound = typed u (local_of x) ∷ scope.bound; next = scope.next + 1 })) k

pub same_line : (type T : CType) (x : Local) (right again : w.Right) (rest : w.Stmts) → type ≡ T → written.local (local_of x) ≡ x → again ≡ right →
    w.more (w.Bind type x right) rest ≡ w.more (w.Bind T (written.local (local_of x)) again) rest
same_line type T x right again rest e k l =
    ap (λ u. w.more (w.Bind u x right) rest) e ∙ ap (λ y. w.more (w.Bind T y right) rest) (sym k) ∙ ap (λ r. w.more (w.Bind T (written.local (local_of x)) r) rest) (sym l)

-- a line that stands for a statement by itself
pub record Stmt_ (p : t.Program) (scope : Scope) (s : w.Stmt) (u : t.Stmt) : Type 0 where
  pub numbers : AreNumbered scope.next (bound_by u)
  pub rules : StmtFits p scope u
  pub text : (rest : w.Stmts) → w.more s rest ≡ written.lines u rest

pub record Bind_ (p : t.Program) (scope : Scope) (type : CType) (x : Local) (right : w.Right) : Type 0 where
  pub line : Stmt_ p scope (w.Bind type x right) (bind_of type (local_of x) right)
  pub state : settled (bind scope x.name type) ≡ settled (after scope (bind_of type (local_of x) right))

-- arguments of a call are written again as they were
pub call_same : (bound : List CParam) → Counted bound → (want : CType) (at : ℕ) (f : Name) (args : List w.Expr) (o : Option Head) → call_of bound o want at f args ≡ [] → map written.expr (map expr_of args) ≡ args
call_same bound c want at f args None h = cc
call_same bound c want at f args (Some g) h =
    let place = at + length (function_name f) + 1 in
    let parts = none_both (unless (same_type g.result want && (length args == length g.params)) at) (argument_breaches bound place args (map (λ q. q.kind) g.params)) h in
    let tests = and_parts (same_type g.result want) (length args == length g.params) (holds (same_type g.result want && (length args == length g.params)) at parts.0) in
    let l = (unsigned_Decides (length args) (length g.params)).0 tests.1 in
    known_args bound c place args (map (λ q. q.kind) g.params) (l ∙ sym (length-map g.params (λ q. q.kind))) parts.1

-- a line that makes no structure's block
abbrev pub IsPlain : w.Right → Type 0
IsPlain (w.Structure s) = ⊥
IsPlain _ = ⊤

module _ (p : t.Program) (heads : Name → Option Head) (missing : Name → Bool) where
  abbrev known : Known
  known = record { structs = members_of p.structs; heads = heads; missing = missing }

  module _ (kh : Heads p known) (scope : Scope) (n : ℕ) (positive : scope.next ≡ suc n) (c : Counted scope.bound) (type : CType) (x : Local) (number : number_of x.number ≡ scope.next) where
    same : written.local (local_of x) ≡ x
    same = numbered x n (number ∙ positive)

    made_line : (name at : ℕ) (m : Maker) (e : w.Expr) → made_breaches scope.bound type name at m e ≡ [] → Bind_ p scope type x (w.New m e)
    made_line name at m e h =
        let parts = none_both (unless (same_type type (made m)) name) (wanted scope.bound (given m) (at + length (maker_text m)) e) h in
        of m e (same_is type (made m) (holds (same_type type (made m)) name parts.0)) (has_type scope.bound (given m) (at + length (maker_text m)) e parts.1)
        (wanted_expr scope.bound c (given m) (at + length (maker_text m)) e parts.1)
      where
        of : (m : Maker) (e : w.Expr) → type ≡ made m → HasType scope.bound (expr_of e) (given m) → written.expr (expr_of e) ≡ e → Bind_ p scope type x (w.New m e)
        of maker.I64 e k t r = record {
          line = record {
            numbers = (number, tt);
            rules = (kind.I64, ap element k, t);
            text = λ rest. same_line type type x (w.New maker.I64 e) (w.New (written.maker_of type) (written.expr (expr_of e))) rest refl same (ap (λ u. w.New (written.maker_of u) (written.expr (expr_of e))) k ∙ ap (w.New maker.I64) r);
          };
          state = bound_behind scope x type type number refl;
        }
        of maker.Bool e k t r = record {
          line = record {
            numbers = (number, tt);
            rules = (kind.Bool, ap element k, t);
            text = λ rest. same_line type type x (w.New maker.Bool e) (w.New (written.maker_of type) (written.expr (expr_of e))) rest refl same (ap (λ u. w.New (written.maker_of u) (written.expr (expr_of e))) k ∙ ap (w.New maker.Bool) r);
          };
          state = bound_behind scope x type type number refl;
        }
        of maker.Atomic e k t r = record {
          line = record {
            numbers = (number, tt);
            rules = t;
            text = λ rest. same_line type kind.PtrAtomic x (w.New maker.Atomic e) (w.New maker.Atomic (written.expr (expr_of e))) rest k same (ap (w.New maker.Atomic) r);
          };
          state = bound_behind scope x type kind.PtrAtomic number k;
        }

    array_line : (name at : ℕ) (e count : w.Expr) → array_breaches scope.bound type name at e count ≡ [] → Bind_ p scope type x (w.Array e count)
    array_line name at e count h =
        let place = at + 8 + length (expr_text e) + 2 in
        let one = none_both (unless (same_type type kind.PtrI64) name ++ wanted scope.bound kind.I64 (at + 8) e) (wanted scope.bound kind.I64 place count) h in
        let two = none_both (unless (same_type type kind.PtrI64) name) (wanted scope.bound kind.I64 (at + 8) e) one.0 in
        let k = same_is type kind.PtrI64 (holds (same_type type kind.PtrI64) name two.0) in
        let r = ap (λ a. w.Array a (written.expr (expr_of count))) (wanted_expr scope.bound c kind.I64 (at + 8) e two.1) ∙ ap (w.Array e) (wanted_expr scope.bound c kind.I64 place count one.1) in
        record {
          line = record {
            numbers = (number, tt);
            rules = (k, has_type scope.bound kind.I64 (at + 8) e two.1, has_type scope.bound kind.I64 place count one.1);
            text = λ rest. same_line type type x (w.Array e count) (w.Array (written.expr (expr_of e)) (written.expr (expr_of count))) rest refl same r;
          };
          state = bound_behind scope x type type number refl;
        }

    swap_line : (name at : ℕ) (base : Local) (old new : w.Expr) → swap_breaches scope.bound type name at base old new ≡ [] → Bind_ p scope type x (w.Cas base old new)
    swap_line name at base old new h =
        let second = at + 6 + length (local_text base) + 2 in
        let third = second + length (expr_text old) + 2 in
        let A = unless (same_type type kind.Bool) name in
        let B = local_wanted scope.bound kind.PtrAtomic (at + 6) base in
        let C = wanted scope.bound kind.I64 second old in
        let D = wanted scope.bound kind.I64 third new in
        let one = none_both (A ++ B ++ C) D h in
        let two = none_both (A ++ B) C one.0 in
        let three = none_both A B two.0 in
        let k = same_is type kind.Bool (holds (same_type type kind.Bool) name three.0) in
        let b = wanted_local scope.bound c kind.PtrAtomic (at + 6) base three.1 in
        let o = wanted_expr scope.bound c kind.I64 second old two.1 in
        let r = wanted_expr scope.bound c kind.I64 third new one.1 in
        record {
          line = record {
            numbers = (number, tt);
            rules = (local_type scope.bound kind.PtrAtomic (at + 6) base three.1, has_type scope.bound kind.I64 second old two.1, has_type scope.bound kind.I64 third new one.1);
            text = λ rest. same_line type kind.Bool x (w.Cas base old new) (w.Cas (written.local (local_of base)) (written.expr (expr_of old)) (written.expr (expr_of new))) rest k same
                (ap (λ y. w.Cas y (written.expr (expr_of old)) (written.expr (expr_of new))) b ∙ ap (λ y. w.Cas base y (written.expr (expr_of new))) o ∙ ap (w.Cas base old) r);
          };
          state = bound_behind scope x type kind.Bool number k;
        }

    pub bind_line : (value : IsValueType p.structs type) (name at : ℕ) (right : w.Right) → IsPlain right → right_breaches known scope.bound type name at right ≡ [] → Bind_ p scope type x right
    bind_line value name at (w.Value e) pl h = record {
      line = record {
        numbers = (number, tt);
        rules = has_type scope.bound type at e h;
        text = λ rest. same_line type type x (w.Value e) (w.Value (written.expr (expr_of e))) rest refl same (ap w.Value (wanted_expr scope.bound c type at e h));
      };
      state = bound_behind scope x type type number refl;
    }
    bind_line value name at (w.Load cell) pl h =
        let parts = none_both (cell_breaches (members_of p.structs) scope.bound at cell) (unless (agrees type (held (members_of p.structs) scope.bound cell)) (named_at at cell)) h in
        record {
          line = record {
            numbers = (number, tt);
            rules = loads p.structs scope.bound type at cell h;
            text = λ rest. same_line type type x (w.Load cell) (w.Load (written.cell (cell_of cell))) rest refl same (ap w.Load (known_cell (members_of p.structs) scope.bound c at cell parts.0));
          };
          state = bound_behind scope x type type number refl;
        }
    bind_line value name at (w.New m e) pl h = made_line name at m e h
    bind_line value name at (w.Array e count) pl h = array_line name at e count h
    bind_line value name at (w.Structure s) pl h = absurd pl
    bind_line value name at w.Lock pl h =
        let k = same_is type kind.PtrLock (holds (same_type type kind.PtrLock) name h) in
        record {
          line = record { numbers = (number, tt); rules = tt; text = λ rest. same_line type kind.PtrLock x w.Lock w.Lock rest k same refl };
          state = bound_behind scope x type kind.PtrLock number k;
        }
    bind_line value name at (w.Call f args) pl h = record {
      line = record {
        numbers = (number, tt);
        rules = (calls p known kh scope.bound type at f args h, value);
        text = λ rest. same_line type type x (w.Call f args) (w.Call f (map written.expr (map expr_of args))) rest refl same (ap (w.Call f) (call_same scope.bound c type at f args (heads f) h));
      };
      state = bound_behind scope x type type number refl;
    }
    bind_line value name at (w.AtomicLoad base) pl h =
        let parts = none_both (unless (same_type type kind.I64) name) (local_wanted scope.bound kind.PtrAtomic (at + 12) base) h in
        let k = same_is type kind.I64 (holds (same_type type kind.I64) name parts.0) in
        record {
          line = record {
            numbers = (number, tt);
            rules = local_type scope.bound kind.PtrAtomic (at + 12) base parts.1;
            text = λ rest. same_line type kind.I64 x (w.AtomicLoad base) (w.AtomicLoad (written.local (local_of base))) rest k same
                (ap w.AtomicLoad (wanted_local scope.bound c kind.PtrAtomic (at + 12) base parts.1));
          };
          state = bound_behind scope x type kind.I64 number k;
        }
    bind_line value name at w.Read pl h =
        let k = same_is type kind.I64 (holds (same_type type kind.I64) name h) in
        record {
          line = record { numbers = (number, tt); rules = tt; text = λ rest. same_line type kind.I64 x w.Read w.Read rest k same refl };
          state = bound_behind scope x type kind.I64 number k;
        }
    bind_line value name at (w.Cas base old new) pl h = swap_line name at base old new h
