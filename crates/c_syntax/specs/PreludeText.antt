-- The prelude of each C text, byte for byte: the headers (C11 7), and the types and functions that a program calls.
use Rattle.std.specs.Prelude.{ℕ, List, [], ◌∷◌, ◌++◌, codes, flat_map}

-- lines, each ended by LF
abbrev pub lines_text : List (List ℕ) → List ℕ
lines_text lines = flat_map (λ line. line ++ codes "\n") lines

-- the prelude
unfoldable pub prelude : List ℕ
prelude = lines_text (
    codes "#include <inttypes.h>" ∷
    codes "#include <stdatomic.h>" ∷
    codes "#include <stdbool.h>" ∷
    codes "#include <stdint.h>" ∷
    codes "#include <stdio.h>" ∷
    codes "#include <stdlib.h>" ∷
    codes "#include <threads.h>" ∷
    codes "typedef _Atomic(int64_t) p_atomic;" ∷
    codes "struct p_lock {" ∷
    codes "  atomic_int word;" ∷
    codes "};" ∷
    codes "static void *p_get(size_t n) {" ∷
    codes "  void *p = malloc(n);" ∷
    codes "  if (p == NULL) {" ∷
    codes "    abort();" ∷
    codes "  }" ∷
    codes "  return p;" ∷
    codes "}" ∷
    codes "static int64_t *p_new_i64(int64_t x) {" ∷
    codes "  int64_t *p = p_get(sizeof(int64_t));" ∷
    codes "  *p = x;" ∷
    codes "  return p;" ∷
    codes "}" ∷
    codes "static bool *p_new_bool(bool x) {" ∷
    codes "  bool *p = p_get(sizeof(bool));" ∷
    codes "  *p = x;" ∷
    codes "  return p;" ∷
    codes "}" ∷
    codes "static p_atomic *p_new_atomic(int64_t x) {" ∷
    codes "  p_atomic *p = p_get(sizeof(p_atomic));" ∷
    codes "  atomic_init(p, x);" ∷
    codes "  return p;" ∷
    codes "}" ∷
    codes "static int64_t *p_array(int64_t x, int64_t n) {" ∷
    codes "  int64_t *p = p_get((size_t)n * sizeof(int64_t));" ∷
    codes "  for (int64_t i = 0; i < n; i++) {" ∷
    codes "    p[i] = x;" ∷
    codes "  }" ∷
    codes "  return p;" ∷
    codes "}" ∷
    codes "static bool p_cas(p_atomic *p, int64_t x, int64_t y) {" ∷
    codes "  return atomic_compare_exchange_strong(p, &x, y);" ∷
    codes "}" ∷
    codes "static struct p_lock *p_lock_new(void) {" ∷
    codes "  struct p_lock *l = p_get(sizeof(struct p_lock));" ∷
    codes "  atomic_init(&l->word, 0);" ∷
    codes "  return l;" ∷
    codes "}" ∷
    codes "static void p_acquire(struct p_lock *l) {" ∷
    codes "  int z = 0;" ∷
    codes "  while (!atomic_compare_exchange_strong(&l->word, &z, 1)) {" ∷
    codes "    z = 0;" ∷
    codes "    thrd_yield();" ∷
    codes "  }" ∷
    codes "}" ∷
    codes "static void p_release(struct p_lock *l) {" ∷
    codes "  atomic_store(&l->word, 0);" ∷
    codes "}" ∷
    codes "static thrd_t p_fork(thrd_start_t f, void *a) {" ∷
    codes "  thrd_t t;" ∷
    codes "  if (thrd_create(&t, f, a) != thrd_success) {" ∷
    codes "    abort();" ∷
    codes "  }" ∷
    codes "  return t;" ∷
    codes "}" ∷
    codes "static void p_join(thrd_t t) {" ∷
    codes "  if (thrd_join(t, NULL) != thrd_success) {" ∷
    codes "    abort();" ∷
    codes "  }" ∷
    codes "}" ∷
    codes "static void p_print(int64_t x) {" ∷
    codes "  printf(\"%\" PRId64 \"\\n\", x);" ∷
    codes "}" ∷
    codes "static int64_t p_read(void) {" ∷
    codes "  int64_t x = 0;" ∷
    codes "  if (scanf(\"%\" SCNd64, &x) != 1) {" ∷
    codes "    x = 0;" ∷
    codes "  }" ∷
    codes "  return x;" ∷
    codes "}" ∷
    [])
