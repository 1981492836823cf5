-- Written: what is written of numbers, from what the workers wrote of them.
mod Written
