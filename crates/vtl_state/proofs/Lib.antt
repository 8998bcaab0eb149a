mod Banks
