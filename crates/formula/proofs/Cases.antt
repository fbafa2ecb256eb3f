-- Marked texts, by computation from the definitions: refusals, then term lists. What the first two definitions unfold is all that is computed with.
use Prim.Native.Nat.{ℕ}
use mathlib.Core.Path.{◌≡◌, refl}
use mathlib.Core.List.{List, [], ◌∷◌, flat_map}
use Rattle.exact.specs.Int.{◌⊕◌, ◌⊖◌, ◌⊗◌, neg}
use Rattle.exact.specs.Crossed.{count_from}
use Rattle.curves.specs.Step.{every}
use Rattle.paper.specs.Limits.{dimension_ok, degree_limit, coefficient_limit}
use Rattle.paper.specs.Job.{refuse_if, all_from}
use Rattle.paper.specs.RunningSum.{exponent_sum}
use Rattle.paper.specs.Operations.{Answer, unless, answered}
use Rattle.formula.specs.Grammar.{axis_of, is_letter}
use Rattle.formula.specs.Reader.{token, sum_with, product_with, closed, step_sum, step_product, step_atom, step_number, step_caret, step_expect, step, ends, finish, run, reading_of}
use Rattle.formula.specs.Polynomial.{exponents_up_to, monomials, monomial_count, exponents_at, degree_at, sum_exponents, same_exponents, position_in, slot, product_slot, cell, is_zero, zeros, zero_polynomial, add_at, single, unless_nought, cellwise, add_row, add_rows, multiplied, row_fits, fits, coefficients_within, within, constant, unit_exponents, variable_polynomial, sum_of, difference_of, product_of}
use Rattle.formula.specs.Meaning.{on_result, on_results, power_of, evaluate, unless_zero}
use Rattle.formula.specs.Read.{double_word_of, double_word_bytes, term_bytes, terms_from, term_list, nesting_limit, is_read, in_language, result_of, polynomial_of, is_none, formula_refusal, terms_of_result, formula_terms}

-- the number with which a text is turned away in dimension n, 0 if it is not
unfoldable pub refusal : ℕ → List ℕ → ℕ
unfolding flat_map unless_nought every all_from exponent_sum dimension_ok degree_limit coefficient_limit refuse_if ◌⊕◌ ◌⊖◌ ◌⊗◌ neg count_from axis_of is_letter
    token sum_with product_with closed step_sum step_product step_atom step_number step_caret step_expect step ends finish run reading_of exponents_up_to
    monomials monomial_count exponents_at degree_at sum_exponents same_exponents position_in slot product_slot cell is_zero zeros zero_polynomial add_at
    single cellwise add_row add_rows multiplied row_fits fits coefficients_within within constant unit_exponents variable_polynomial sum_of difference_of
    product_of on_result on_results power_of evaluate unless_zero double_word_of double_word_bytes term_bytes terms_from term_list nesting_limit is_read
    in_language result_of polynomial_of is_none formula_refusal terms_of_result formula_terms unless
refusal n s = formula_refusal n s

unfoldable pub terms : ℕ → List ℕ → Answer (List ℕ)
unfolding flat_map unless_nought every all_from exponent_sum dimension_ok degree_limit coefficient_limit refuse_if ◌⊕◌ ◌⊖◌ ◌⊗◌ neg count_from axis_of is_letter
    token sum_with product_with closed step_sum step_product step_atom step_number step_caret step_expect step ends finish run reading_of exponents_up_to
    monomials monomial_count exponents_at degree_at sum_exponents same_exponents position_in slot product_slot cell is_zero zeros zero_polynomial add_at
    single cellwise add_row add_rows multiplied row_fits fits coefficients_within within constant unit_exponents variable_polynomial sum_of difference_of
    product_of on_result on_results power_of evaluate unless_zero double_word_of double_word_bytes term_bytes terms_from term_list nesting_limit is_read
    in_language result_of polynomial_of is_none formula_refusal terms_of_result formula_terms unless
terms n s = formula_terms n s

-- 2*x^2+2*y^2-1
circle : refusal 2 (50 ∷ 42 ∷ 120 ∷ 94 ∷ 50 ∷ 43 ∷ 50 ∷ 42 ∷ 121 ∷ 94 ∷ 50 ∷ 45 ∷ 49 ∷ []) ≡ 0
unfolding refusal
circle = refl

-- 0000001
seven_digits : refusal 2 (48 ∷ 48 ∷ 48 ∷ 48 ∷ 48 ∷ 48 ∷ 49 ∷ []) ≡ 0
unfolding refusal
seven_digits = refl

-- 00000001
eight_digits : refusal 2 (48 ∷ 48 ∷ 48 ∷ 48 ∷ 48 ∷ 48 ∷ 48 ∷ 49 ∷ []) ≡ 14
unfolding refusal
eight_digits = refl

-- x^5
fifth_power : refusal 2 (120 ∷ 94 ∷ 53 ∷ []) ≡ 14
unfolding refusal
fifth_power = refl

-- x^12
two_exponents : refusal 2 (120 ∷ 94 ∷ 49 ∷ 50 ∷ []) ≡ 14
unfolding refusal
two_exponents = refl

-- 2x
no_star : refusal 2 (50 ∷ 120 ∷ []) ≡ 14
unfolding refusal
no_star = refl

-- +x
leading_plus : refusal 2 (43 ∷ 120 ∷ []) ≡ 14
unfolding refusal
leading_plus = refl

-- x*-y
minus_behind_a_star : refusal 2 (120 ∷ 42 ∷ 45 ∷ 121 ∷ []) ≡ 14
unfolding refusal
minus_behind_a_star = refl

-- ()
empty_parentheses : refusal 2 (40 ∷ 41 ∷ []) ≡ 14
unfolding refusal
empty_parentheses = refl

-- x y
a_blank : refusal 2 (120 ∷ 32 ∷ 121 ∷ []) ≡ 14
unfolding refusal
a_blank = refl

-- the empty text
no_text : refusal 2 ([]) ≡ 14
unfolding refusal
no_text = refl

-- z
z_in_the_plane : refusal 2 (122 ∷ []) ≡ 14
unfolding refusal
z_in_the_plane = refl

-- z
z_in_space : refusal 3 (122 ∷ []) ≡ 0
unfolding refusal
z_in_space = refl

-- w
w_in_space : refusal 3 (119 ∷ []) ≡ 14
unfolding refusal
w_in_space = refl

-- w
w_in_four_axes : refusal 4 (119 ∷ []) ≡ 0
unfolding refusal
w_in_four_axes = refl

-- 1048576
largest_number : refusal 2 (49 ∷ 48 ∷ 52 ∷ 56 ∷ 53 ∷ 55 ∷ 54 ∷ []) ≡ 0
unfolding refusal
largest_number = refl

-- 1048577
number_over_the_limit : refusal 2 (49 ∷ 48 ∷ 52 ∷ 56 ∷ 53 ∷ 55 ∷ 55 ∷ []) ≡ 15
unfolding refusal
number_over_the_limit = refl

-- (x-x)^0
zero_to_the_0 : refusal 2 (40 ∷ 120 ∷ 45 ∷ 120 ∷ 41 ∷ 94 ∷ 48 ∷ []) ≡ 0
unfolding refusal
zero_to_the_0 = refl

-- x-x
final_zero : refusal 2 (120 ∷ 45 ∷ 120 ∷ []) ≡ 15
unfolding refusal
final_zero = refl

-- ((((((((((((((((x))))))))))))))))
sixteen_deep : refusal 2 (40 ∷ 40 ∷ 40 ∷ 40 ∷ 40 ∷ 40 ∷ 40 ∷ 40 ∷ 40 ∷ 40 ∷ 40 ∷ 40 ∷ 40 ∷ 40 ∷ 40 ∷ 40 ∷ 120 ∷ 41 ∷ 41 ∷ 41 ∷ 41 ∷ 41 ∷ 41 ∷ 41 ∷ 41 ∷ 41 ∷ 41 ∷ 41 ∷ 41 ∷ 41 ∷ 41 ∷ 41 ∷ 41 ∷ []) ≡ 0
unfolding refusal
sixteen_deep = refl

-- (((((((((((((((((x)))))))))))))))))
seventeen_deep : refusal 2 (40 ∷ 40 ∷ 40 ∷ 40 ∷ 40 ∷ 40 ∷ 40 ∷ 40 ∷ 40 ∷ 40 ∷ 40 ∷ 40 ∷ 40 ∷ 40 ∷ 40 ∷ 40 ∷ 40 ∷ 120 ∷ 41 ∷ 41 ∷ 41 ∷ 41 ∷ 41 ∷ 41 ∷ 41 ∷ 41 ∷ 41 ∷ 41 ∷ 41 ∷ 41 ∷ 41 ∷ 41 ∷ 41 ∷ 41 ∷ 41 ∷ []) ≡ 15
unfolding refusal
seventeen_deep = refl

-- (((((((((((((((((x))))))))))))))))
seventeen_deep_and_outside : refusal 2 (40 ∷ 40 ∷ 40 ∷ 40 ∷ 40 ∷ 40 ∷ 40 ∷ 40 ∷ 40 ∷ 40 ∷ 40 ∷ 40 ∷ 40 ∷ 40 ∷ 40 ∷ 40 ∷ 40 ∷ 120 ∷ 41 ∷ 41 ∷ 41 ∷ 41 ∷ 41 ∷ 41 ∷ 41 ∷ 41 ∷ 41 ∷ 41 ∷ 41 ∷ 41 ∷ 41 ∷ 41 ∷ 41 ∷ 41 ∷ []) ≡ 14
unfolding refusal
seventeen_deep_and_outside = refl

-- x
dimension_5 : refusal 5 (120 ∷ []) ≡ 3
unfolding refusal
dimension_5 = refl

-- +
dimension_1_and_outside : refusal 1 (43 ∷ []) ≡ 3
unfolding refusal
dimension_1_and_outside = refl

-- x^4*y
fifth_degree : refusal 2 (120 ∷ 94 ∷ 52 ∷ 42 ∷ 121 ∷ []) ≡ 15
unfolding refusal
fifth_degree = refl

-- (x*y)^4
eighth_degree : refusal 2 (40 ∷ 120 ∷ 42 ∷ 121 ∷ 41 ∷ 94 ∷ 52 ∷ []) ≡ 15
unfolding refusal
eighth_degree = refl

-- 1048576*2-1048576*2+x
inner_coefficient : refusal 2 (49 ∷ 48 ∷ 52 ∷ 56 ∷ 53 ∷ 55 ∷ 54 ∷ 42 ∷ 50 ∷ 45 ∷ 49 ∷ 48 ∷ 52 ∷ 56 ∷ 53 ∷ 55 ∷ 54 ∷ 42 ∷ 50 ∷ 43 ∷ 120 ∷ []) ≡ 15
unfolding refusal
inner_coefficient = refl

-- (x-x)*x^4*y+x
inner_zero : refusal 2 (40 ∷ 120 ∷ 45 ∷ 120 ∷ 41 ∷ 42 ∷ 120 ∷ 94 ∷ 52 ∷ 42 ∷ 121 ∷ 43 ∷ 120 ∷ []) ≡ 0
unfolding refusal
inner_zero = refl

-- ---- term lists

-- -x^2
minus_the_square : terms 2 (45 ∷ 120 ∷ 94 ∷ 50 ∷ []) ≡ answered (255 ∷ 255 ∷ 255 ∷ 255 ∷ 2 ∷ 0 ∷ 0 ∷ 0 ∷ [])
unfolding terms
minus_the_square = refl

-- 2*3^2
square_first : terms 2 (50 ∷ 42 ∷ 51 ∷ 94 ∷ 50 ∷ []) ≡ answered (18 ∷ 0 ∷ 0 ∷ 0 ∷ 0 ∷ 0 ∷ 0 ∷ 0 ∷ [])
unfolding terms
square_first = refl

-- (x-x)^0
zero_to_the_0_is_1 : terms 2 (40 ∷ 120 ∷ 45 ∷ 120 ∷ 41 ∷ 94 ∷ 48 ∷ []) ≡ answered (1 ∷ 0 ∷ 0 ∷ 0 ∷ 0 ∷ 0 ∷ 0 ∷ 0 ∷ [])
unfolding terms
zero_to_the_0_is_1 = refl

-- 3-2-1+x
left_to_right : terms 2 (51 ∷ 45 ∷ 50 ∷ 45 ∷ 49 ∷ 43 ∷ 120 ∷ []) ≡ answered (1 ∷ 0 ∷ 0 ∷ 0 ∷ 1 ∷ 0 ∷ 0 ∷ 0 ∷ [])
unfolding terms
left_to_right = refl

-- -x+x*y
first_product_only : terms 2 (45 ∷ 120 ∷ 43 ∷ 120 ∷ 42 ∷ 121 ∷ []) ≡ answered (255 ∷ 255 ∷ 255 ∷ 255 ∷ 1 ∷ 0 ∷ 0 ∷ 0 ∷ 1 ∷ 0 ∷ 0 ∷ 0 ∷ 1 ∷ 1 ∷ 0 ∷ 0 ∷ [])
unfolding terms
first_product_only = refl

-- x+1+x
gathered : terms 2 (120 ∷ 43 ∷ 49 ∷ 43 ∷ 120 ∷ []) ≡ answered (1 ∷ 0 ∷ 0 ∷ 0 ∷ 0 ∷ 0 ∷ 0 ∷ 0 ∷ 2 ∷ 0 ∷ 0 ∷ 0 ∷ 1 ∷ 0 ∷ 0 ∷ 0 ∷ [])
unfolding terms
gathered = refl
