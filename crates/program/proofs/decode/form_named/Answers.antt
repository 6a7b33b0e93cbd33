-- `program::decode::form_named` meets its contract: at each byte the definition computes. Assumes nothing.
use mathlib.Core.Path.{sym, ap}
use Rattle.program.specs.Operation.{form_of}
use Rattle.program.proofs.Form.{past, form_unknown}
use Rattle.program.proofs.decode.form_named.Goals as goal

pub returns-in-192 : goal.returns-in-192
unfolding form_of
returns-in-192 c = sym (ap form_of c.in-192.is)

pub returns-in-193 : goal.returns-in-193
unfolding form_of
returns-in-193 c = sym (ap form_of c.in-193.is)

pub returns-in-194 : goal.returns-in-194
unfolding form_of
returns-in-194 c = sym (ap form_of c.in-194.is)

pub returns-in-195 : goal.returns-in-195
unfolding form_of
returns-in-195 c = sym (ap form_of c.in-195.is)

pub returns-in-196 : goal.returns-in-196
unfolding form_of
returns-in-196 c = sym (ap form_of c.in-196.is)

pub returns-in-197 : goal.returns-in-197
unfolding form_of
returns-in-197 c = sym (ap form_of c.in-197.is)

pub returns-in-198 : goal.returns-in-198
unfolding form_of
returns-in-198 c = sym (ap form_of c.in-198.is)

pub returns-in-199 : goal.returns-in-199
unfolding form_of
returns-in-199 c = sym (ap form_of c.in-199.is)

pub returns-in-200 : goal.returns-in-200
unfolding form_of
returns-in-200 c = sym (ap form_of c.in-200.is)

pub returns-in-201 : goal.returns-in-201
unfolding form_of
returns-in-201 c = sym (ap form_of c.in-201.is)

pub returns-in-202 : goal.returns-in-202
unfolding form_of
returns-in-202 c = sym (ap form_of c.in-202.is)

pub returns-in_default : goal.returns-in_default
returns-in_default c =
    let differs = c.in_default.in_default-own.rest in
    let after-c0 = past 0xc0 _ c.requires.0 differs.0.0.0.0.0.0.0.0.0.0.1 in
    let after-c1 = past 0xc1 _ after-c0 differs.0.0.0.0.0.0.0.0.0.1 in
    let after-c2 = past 0xc2 _ after-c1 differs.0.0.0.0.0.0.0.0.1 in
    let after-c3 = past 0xc3 _ after-c2 differs.0.0.0.0.0.0.0.1 in
    let after-c4 = past 0xc4 _ after-c3 differs.0.0.0.0.0.0.1 in
    let after-c5 = past 0xc5 _ after-c4 differs.0.0.0.0.0.1 in
    let after-c6 = past 0xc6 _ after-c5 differs.0.0.0.0.1 in
    let after-c7 = past 0xc7 _ after-c6 differs.0.0.0.1 in
    let after-c8 = past 0xc8 _ after-c7 differs.0.0.1 in
    let after-c9 = past 0xc9 _ after-c8 differs.0.1 in
    let after-ca = past 0xca _ after-c9 differs.1 in
    form_unknown _ after-ca c.requires.1
