use Rattle.std.proofs.Common.{rules, arith, None, ◌≡◌, ◌+◌, ◌-◌, false, eqb, refl, length, map}
use Rattle.std.specs.List.{list_any}
use Rattle.mid_code.specs.Functions.{function, node, listed}
use Rattle.mid_scalars.specs.inner.Table.{kept}
use Rattle.mid_scalars.specs.inner.Rewriting.{list_by, plan_by}
use Rattle.mid_scalars.specs.inner.Tabled.{IsTableOf}
use Rattle.mid_scalars.proofs.Rewritten.{rewritten}
use Rattle.mid_scalars.proofs.Promised.{no_single_stays, all_kept_stays, function_is, table_fits, table_long, table_least}
use Rattle.mid_scalars.proofs.functions.promote_function.Goals as goal

pub promote_nodes-requires : goal.promote_nodes-requires
promote_nodes-requires c =
    let is : IsTableOf (function c.args.f.now) c.in_ok-table.table = search rules in
    record { fits = table_fits (function c.args.f.now) c.in_ok-table.table is }

pub kept_of-requires : goal.kept_of-requires
kept_of-requires c =
    let is : IsTableOf (function c.args.f.now) c.in_ok-table.table = search rules in
    let long = table_long (function c.args.f.now) c.in_ok-table.table is in
    record { long = search (rules, long) }

pub overflow_cast-more : goal.overflow_cast-more
overflow_cast-more c =
    let is : IsTableOf (function c.args.f.now) c.in_ok-table.table = search rules in
    let long = table_long (function c.args.f.now) c.in_ok-table.table is in
    let count = c.requires.promotable.count in
    let len : c.len.result ≡ length c.in_ok-table.table.plain.items = search rules in
    omega (arith, long, count, len)

pub overflow_sub-more : goal.overflow_sub-more
overflow_sub-more c =
    let is : IsTableOf (function c.args.f.now) c.in_ok-table.table = search rules in
    let least = table_least (function c.args.f.now) c.in_ok-table.table is in
    let len : c.len.result ≡ length c.in_ok-table.table.plain.items = search rules in
    omega (arith, least, len)

pub overflow_add-f : goal.overflow_add-f
overflow_add-f c =
    let is : IsTableOf (function c.args.f.now) c.in_ok-table.table = search rules in
    let long = table_long (function c.args.f.now) c.in_ok-table.table is in
    let count = c.requires.promotable.count in
    let len : c.len.result ≡ length c.in_ok-table.table.plain.items = search rules in
    omega (arith, long, count, len)

pub returns-then-not-has_single : goal.returns-then-not-has_single
returns-then-not-has_single c =
    let none : list_any (λ n. eqb n 1) c.args.f.now.locals ≡ false = search rules in
    no_single_stays (function c.args.f.now) none

pub returns-then-more-eq0 : goal.returns-then-more-eq0
returns-then-more-eq0 c =
    let f = function c.args.f.now in
    let t = c.in_ok-table.table in
    let is : IsTableOf f t = search rules in
    let len : c.len.result ≡ length t.plain.items = search rules in
    let none : c.len.result - t.kept ≡ 0 = search rules in
    all_kept_stays f t is (omega (arith, len, none))

pub returns : goal.returns
returns c =
    let f = function c.args.f.now in
    let t = c.in_ok-table.table in
    let is : IsTableOf f t = search rules in
    let len : c.len.result ≡ length t.plain.items = search rules in
    let temps : c.args.f.now.temps + (c.len.result - t.kept) ≡ f.temps + (length t.plain.items - t.kept) = omega (arith, len) in
    let locals : c.from_vec.result ≡ kept t.plain.items f.locals = search rules in
    let body : map node c.from_vec-2.result ≡ list_by (plan_by t) None (listed (map node c.args.f.now.body)) = search rules in
    function_is f t _ f.params c.from_vec.result _ is temps refl locals (rewritten (plan_by t) None c.args.f.now.body c.from_vec-2.result body)
